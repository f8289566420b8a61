-- Whether a host names a port, read from its end.
use Rattle.std.proofs.Common.{◌≡◌, ◌≢◌, ℕ, suc, ◌+◌, ◌-◌, ◌<◌, ◌≤◌, inl, inr, List, ◌∷◌, ◌++◌, length, take, drop, get_or, refl, sym, subst, ap, ◌∙◌, arith, All}
use Rattle.std.proofs.lemmas.List.{take-append-drop, drop_more, get_or-drop, get_or_at, get_or-append_right, length-drop, length-append}
use Rattle.std.proofs.lemmas.List.Elements.{All-from_get_or, All-get_or}
use Rattle.std.proofs.lemmas.Bool.{cases_order}
use Rattle.http_range.specs.Hosts.{NamesPort}

-- neither a colon nor a closing bracket stands from that place on
abbrev pub AreOthers : List ℕ → ℕ → Type 0
AreOthers host at = (k : ℕ) → at ≤ k → k < length host → (get_or host k 0 ≢ 58) × (get_or host k 0 ≢ 93)

pub one_other : (host : List ℕ) (at : ℕ) → get_or host at 0 ≢ 58 → get_or host at 0 ≢ 93 → AreOthers host (at + 1) → AreOthers host at
one_other host at colon bracket others k from within = elim (cases_order at k) [
  | inl same ↦ subst (λ i. (get_or host i 0 ≢ 58) × (get_or host i 0 ≢ 93)) same (colon, bracket)
  | inr (inl above) ↦ others k (omega arith) within
  | inr (inr below) ↦ absurd (omega arith)
]

pub port_behind : (host : List ℕ) (at : ℕ) → at < length host → get_or host at 0 ≡ 58 → AreOthers host (at + 1) → NamesPort host
port_behind host at within is others =
    let port = drop (at + 1) host in
    let whole : host ≡ take at host ++ 58 ∷ port =
    sym (take-append-drop at host) ∙ ap (λ l. take at host ++ l) (drop_more host at 0 within ∙ ap (λ b. b ∷ port) is) in
    let free : All (λ b. b ≢ 93) port = All-from_get_or (λ b. b ≢ 93) port 0 (λ i h.
    subst (λ b. b ≢ 93) (sym (get_or-drop (at + 1) host i 0)) (others (at + 1 + i) (omega arith) (omega (arith, length-drop (at + 1) host))).1) in
    (take at host, port, whole, free)

pub no_port : (host : List ℕ) (at : ℕ) → at < length host → get_or host at 0 ≡ 93 → AreOthers host (at + 1) → ¬ (NamesPort host)
no_port host at within is others (name, port, whole, free) =
    let n = length name in
    let colon : get_or host n 0 ≡ 58 = ap (λ l. get_or l n 0) whole ∙ get_or_at name 58 port 0 n refl in
    let long : length host ≡ n + length (58 ∷ port) = ap length whole ∙ length-append name (58 ∷ port) in
    elim (cases_order n at) [
      | inl same ↦ absurd (let other : 58 ≡ 93 = sym colon ∙ ap (λ i. get_or host i 0) same ∙ is in omega arith)
      | inr (inl before) ↦
          let i = at - n - 1 in
          let next : at - n ≡ suc i = omega arith in
          let byte : get_or port i 0 ≡ 93 = ap (λ j. get_or (58 ∷ port) j 0) (sym next) ∙ sym (get_or-append_right name (58 ∷ port) n at 0 refl (omega arith)) ∙ ap (λ l. get_or l at 0) (sym whole) ∙ is in
          All-get_or (λ b. b ≢ 93) port i 0 (omega arith) free byte
      | inr (inr behind) ↦ (others n (omega arith) (omega arith)).0 colon
    ]

pub no_colon : (host : List ℕ) → AreOthers host 0 → ¬ (NamesPort host)
no_colon host others (name, port, whole, free) =
    let n = length name in
    let colon : get_or host n 0 ≡ 58 = ap (λ l. get_or l n 0) whole ∙ get_or_at name 58 port 0 n refl in
    let long : length host ≡ n + length (58 ∷ port) = ap length whole ∙ length-append name (58 ∷ port) in
    (others n (omega arith) (omega arith)).0 colon
