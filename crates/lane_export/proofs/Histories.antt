-- Histories of which every number's entries are known.
use Rattle.std.specs.Prelude.{◌==◌}
use Rattle.std.proofs.Common.{true, false, ◌≡◌, ℕ, suc, ◌+◌, ◌<◌, ◌≤◌, ◌⊎◌, inl, inr, Bool, List, [], ◌∷◌, ◌++◌, length, cond, refl, sym, ap, ◌∙◌, arith, append-nil, length-append, eq-eqb}
use Rattle.std.proofs.lemmas.Bool.Decides.{leb_tells}
use Rattle.flat_image.specs.declared.stands.Entry.{Entry}
use Rattle.flat_image.specs.declared.act.Act.{Act}
use Rattle.flat_image.specs.Entries.{calls_by, StartsWith}
use Rattle.flat_image.specs.History.{History}
use Rattle.flat_image.proofs.Entries.{calls_by-append}

-- all entries of the history with that number stand in that beginning
pub record AllIn (history front : History) (k : ℕ) : Type 0 where
  pub seen : History
  pub begun : StartsWith front seen
  pub own : calls_by k history ≡ calls_by k seen

-- a number has an entry there
first_of : (e : Entry Act) (rest : History) → length (calls_by e.number (e ∷ rest)) ≡ suc (length (calls_by e.number rest))
first_of e rest = ap (λ (b : Bool). length (cond b (e ∷ calls_by e.number rest) (calls_by e.number rest))) (eq-eqb e.number e.number refl)

is_none : {X : Type 0} (xs : List X) → length xs ≡ 0 → xs ≡ []
is_none [] none = refl
is_none (x ∷ xs) none = absurd (omega (arith, none))

nat_decide : (a b : ℕ) → (a ≡ b) ⊎ (a ≡ b → ⊥)
nat_decide a b = elim (leb_tells a b) [
  | inl le ↦ elim (leb_tells b a) [ inl ge ↦ inl (omega (arith, le.1, ge.1)) | inr lt ↦ inr (λ same. omega (arith, lt.1, same)) ]
  | inr lt ↦ inr (λ same. omega (arith, lt.1, same))
]

-- a beginning in which all entries of all numbers stand is the whole history
pub whole_history : (history front rest : History) (n : ℕ) → history ≡ front ++ rest → ((k : ℕ) → n ≤ k → calls_by k history ≡ []) → ((k : ℕ) → k < n → AllIn history front k) → history ≡ front
whole_history history front [] n is none all = is ∙ append-nil front
whole_history history front (e ∷ rest) n is none all =
    let k = e.number in
    let split : calls_by k history ≡ calls_by k front ++ calls_by k (e ∷ rest) = ap (calls_by k) is ∙ calls_by-append k front (e ∷ rest) in
    let long : length (calls_by k history) ≡ length (calls_by k front) + suc (length (calls_by k rest)) =
    ap (length {A = Entry Act}) split ∙ (length-append (calls_by k front) (calls_by k (e ∷ rest)) ∙ ap (λ (m : ℕ). length (calls_by k front) + m) (first_of e rest)) in
    elim (leb_tells n k) [
      | inl more ↦ let never : ⊥ = (let none_long : length (calls_by k history) ≡ 0 = ap (length {A = Entry Act}) (none k more.1) in omega (arith, long, none_long)) in absurd never
      | inr less ↦
          let a = all k less.1 in
          let front_long : length (calls_by k front) ≡ length (calls_by k a.seen) + length (calls_by k a.begun.rest) =
          ap (λ (l : History). length (calls_by k l)) a.begun.is ∙ (ap (length {A = Entry Act}) (calls_by-append k a.seen a.begun.rest) ∙ length-append (calls_by k a.seen) (calls_by k a.begun.rest)) in
          let own_long : length (calls_by k history) ≡ length (calls_by k a.seen) = ap (length {A = Entry Act}) a.own in
          let never : ⊥ = omega (arith, long, front_long, own_long) in absurd never
    ]

kept_same : (b : Bool) (e : Entry Act) (xs : List (Entry Act)) → cond b (e ∷ xs) xs ≡ [] → xs ≡ []
kept_same true e xs is = absurd cc
kept_same false e xs is = is

none_behind : (k : ℕ) (e : Entry Act) (rest : History) → calls_by k (e ∷ rest) ≡ [] → calls_by k rest ≡ []
none_behind k e rest none = kept_same (e.number == k) e (calls_by k rest) none

-- a history in which no other number has an entry is that number's own
pub only_own : (n : ℕ) (more : History) → ((k : ℕ) → (k ≡ n → ⊥) → calls_by k more ≡ []) → calls_by n more ≡ more
only_own n [] none = refl
only_own n (e ∷ more) none =
    let rest = only_own n more (λ k other. none_behind k e more (none k other)) in
    elim (nat_decide e.number n) [
      | inl same ↦ ap (λ (b : Bool). cond b (e ∷ calls_by n more) (calls_by n more)) (eq-eqb e.number n same) ∙ ap (λ l. e ∷ l) rest
      | inr other ↦
          let never : ⊥ = (let long : suc (length (calls_by e.number more)) ≡ 0 = sym (first_of e more) ∙ ap (length {A = Entry Act}) (none e.number other) in omega (arith, long)) in
          absurd never
    ]

-- what stands behind a beginning in which all entries of a number stand has none of it
pub none_more : (history front rest : History) (k : ℕ) → history ≡ front ++ rest → AllIn history front k → calls_by k rest ≡ []
none_more history front rest k is a =
    let split : calls_by k history ≡ calls_by k front ++ calls_by k rest = ap (calls_by k) is ∙ calls_by-append k front rest in
    let long : length (calls_by k history) ≡ length (calls_by k front) + length (calls_by k rest) = ap (length {A = Entry Act}) split ∙ length-append (calls_by k front) (calls_by k rest) in
    let front_long : length (calls_by k front) ≡ length (calls_by k a.seen) + length (calls_by k a.begun.rest) =
    ap (length {A = Entry Act}) (ap (calls_by k) a.begun.is ∙ calls_by-append k a.seen a.begun.rest) ∙ length-append (calls_by k a.seen) (calls_by k a.begun.rest) in
    let own_long : length (calls_by k history) ≡ length (calls_by k a.seen) = ap (length {A = Entry Act}) a.own in
    is_none (calls_by k rest) (omega (arith, long, front_long, own_long))
