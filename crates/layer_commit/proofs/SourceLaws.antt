-- Sources that are laid one after another.
use Rattle.std.proofs.Common.{◌≡◌, ℕ, zero, suc, ◌+◌, ◌-◌, ◌*◌, ◌^◌, ◌<◌, ◌≤◌, ◌⊎◌, min, List, [], ◌∷◌, ◌++◌, length, take, drop, refl, sym, ap, subst, ◌∙◌, arith, inl, inr, ⊎_elim, get_or, append-nil, append_assoc}
use Rattle.std.proofs.lemmas.List.{take-append-drop, take_more, drop_all}
use Rattle.std.proofs.lemmas.List.Elements.{All-take}
use Rattle.block_disk.specs.Changes.{piece}
use Rattle.layer_commit.specs.declared.source.Source.{Source}
use Rattle.layer_commit.specs.Laying.{Lays}
use Rattle.layer_commit.specs.Sources.{copied, counted, IsSource, AreSources, AreWithin}
use Rattle.layer_commit.proofs.FileLaws.{length-copied, IsLong}
use Rattle.layer_commit.proofs.LayLaws.{lays_apart, lays_joined, lays_nothing}

pub source_at : (to : ℕ) (sources : List Source) (i : ℕ) (d : Source) → AreSources to sources → i < length sources → IsSource (to + counted (take i sources)) (get_or sources i d)
source_at to [] i d are lt = absurd (omega (arith, lt))
source_at to (source ∷ rest) zero d are lt = subst (λ (k : ℕ). IsSource k source) (let e : to ≡ to + 0 = omega arith in e) are.0
source_at to (source ∷ rest) (suc i) d are lt =
    subst (λ (k : ℕ). IsSource k (get_or rest i d)) (let e : to + source.count + counted (take i rest) ≡ to + (source.count + counted (take i rest)) = omega arith in e)
    (source_at (to + source.count) rest i d are.1 (omega (arith, lt)))

pub counted-append : (xs ys : List Source) → counted (xs ++ ys) ≡ counted xs + counted ys
counted-append [] ys = omega arith
counted-append (x ∷ xs) ys = omega (arith, counted-append xs ys)

pub counted_more : (sources : List Source) (i : ℕ) (d : Source) → i < length sources → counted (take (i + 1) sources) ≡ counted (take i sources) + (get_or sources i d).count
counted_more sources i d lt =
    ap counted (take_more sources i d lt) ∙ counted-append (take i sources) (get_or sources i d ∷ [])
    ∙ (let e : counted (take i sources) + ((get_or sources i d).count + 0) ≡ counted (take i sources) + (get_or sources i d).count = omega arith in e)

pub counted_take : (sources : List Source) (i : ℕ) → counted (take i sources) ≤ counted sources
counted_take sources i = omega (arith, ap counted (take-append-drop i sources), counted-append (take i sources) (drop i sources))

pub copied-append : (stored : List ℕ) (xs ys : List Source) → copied stored (xs ++ ys) ≡ copied stored xs ++ copied stored ys
copied-append stored [] ys = refl
copied-append stored (x ∷ xs) ys =
    ap (λ (l : List ℕ). piece (512 * x.from) (512 * x.count) stored ++ l) (copied-append stored xs ys)
    ∙ sym (append_assoc (piece (512 * x.from) (512 * x.count) stored) (copied stored xs) (copied stored ys))

front_long : (stored : List ℕ) (sources : List Source) (k : ℕ) → AreWithin stored sources → length (copied stored (take k sources)) ≡ 512 * counted (take k sources)
front_long stored sources k within = length-copied stored (take k sources) (All-take (IsLong stored) k sources within)

pub sources_done : (from k : ℕ) (stored : List ℕ) (sources : List Source) (a b : List ℕ) → AreWithin stored sources → Lays from 4096 (copied stored (take k sources)) a b
    → (length sources ≤ k) ⊎ (from + length b ≤ 512 * (8 + counted (take k sources))) → Lays from 4096 (copied stored sources) a b
sources_done from k stored sources a b within laid out =
    let front : List ℕ = copied stored (take k sources) in
    let back : List ℕ = copied stored (drop k sources) in
    let long : length front ≡ 512 * counted (take k sources) = front_long stored sources k within in
    let split : copied stored sources ≡ front ++ back = ap (copied stored) (sym (take-append-drop k sources)) ∙ copied-append stored (take k sources) (drop k sources) in
    subst (λ (bytes : List ℕ). Lays from 4096 bytes a b) (sym split)
    (lays_joined from 4096 front back a b b laid (⊎_elim
    (λ none. subst (λ (l : List ℕ). Lays from (4096 + length front) l b b) (sym (ap (copied stored) (drop_all k sources none))) (lays_nothing from (4096 + length front) b))
    (λ apart. lays_apart from (4096 + length front) back b (inl (omega (arith, apart, long))))
    out))

pub sources_early : (from k : ℕ) (stored : List ℕ) (sources : List Source) (old : List ℕ) → AreWithin stored sources → (k ≡ 0) ⊎ (512 * (8 + counted (take k sources)) ≤ from)
    → Lays from 4096 (copied stored (take k sources)) old old
sources_early from k stored sources old within before = ⊎_elim
    (λ none. subst (λ (j : ℕ). Lays from 4096 (copied stored (take j sources)) old old) (sym none) (lays_nothing from 4096 old))
    (λ early. lays_apart from 4096 (copied stored (take k sources)) old (inr (omega (arith, early, front_long stored sources k within))))
    before

pub sources_next : (from k : ℕ) (stored : List ℕ) (sources : List Source) (source d : Source) (a b c : List ℕ) → AreWithin stored sources → k < length sources
    → get_or sources k d ≡ source → source.to ≡ 8 + counted (take k sources)
    → Lays from 4096 (copied stored (take k sources)) a b → Lays from (512 * source.to) (piece (512 * source.from) (512 * source.count) stored) b c
    → Lays from 4096 (copied stored (take (k + 1) sources)) a c
sources_next from k stored sources source d a b c within lt is to laid one =
    let front : List ℕ = copied stored (take k sources) in
    let bytes : List ℕ = piece (512 * source.from) (512 * source.count) stored in
    let long : length front ≡ 512 * counted (take k sources) = front_long stored sources k within in
    let more : copied stored (take (k + 1) sources) ≡ front ++ bytes =
    ap (copied stored) (take_more sources k d lt ∙ ap (λ (s : Source). take k sources ++ s ∷ []) is)
    ∙ copied-append stored (take k sources) (source ∷ [])
    ∙ ap (λ (l : List ℕ). front ++ l) (append-nil bytes) in
    subst (λ (l : List ℕ). Lays from 4096 l a c) (sym more)
    (lays_joined from 4096 front bytes a b c laid (subst (λ (j : ℕ). Lays from j bytes b c) (let e : 512 * source.to ≡ 4096 + length front = omega (arith, to, long) in e) one))

-- where a source ends, as 64 bits have it
abbrev pub end_in : Source → ℕ
end_in source = min (512 * min (source.to + source.count) (2 ^ 64 - 1)) (2 ^ 64 - 1)

counted_rises : (sources : List Source) (i j : ℕ) → i ≤ j → counted (take i sources) ≤ counted (take j sources)
counted_rises [] zero zero le = omega arith
counted_rises [] zero (suc j) le = omega arith
counted_rises [] (suc i) zero le = absurd (omega (arith, le))
counted_rises [] (suc i) (suc j) le = omega arith
counted_rises (source ∷ rest) zero j le = omega arith
counted_rises (source ∷ rest) (suc i) zero le = absurd (omega (arith, le))
counted_rises (source ∷ rest) (suc i) (suc j) le = omega (arith, counted_rises rest i j (omega (arith, le)))

pub ends_rise : (sources : List Source) (i j : ℕ) (d : Source) → AreSources 8 sources → i ≤ j → j < length sources → end_in (get_or sources i d) ≤ end_in (get_or sources j d)
ends_rise sources i j d are le below =
    let low = source_at 8 sources i d are (omega (arith, le, below)) in
    let high = source_at 8 sources j d are below in
    omega (arith, low.place, high.place, counted_more sources i d (omega (arith, le, below)), counted_more sources j d below, counted_rises sources (i + 1) (j + 1) (omega (arith, le)))
