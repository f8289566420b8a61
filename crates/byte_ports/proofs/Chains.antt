-- How writes follow one another on a sink's told bytes, and how reads do on a source's.
use Rattle.std.proofs.Common.{◌≡◌, ℕ, ◌+◌, ◌-◌, ◌<◌, ◌≤◌, min, List, [], ◌++◌, length, take, drop, sym, ap, ◌∙◌, subst, arith, take_at, length-take-le, inl, inr}
use Rattle.std.specs.Prelude.{Option, None, Some, Result, Ok, Err}
use Rattle.std.proofs.lemmas.List.{append-nil, take_all, take_rest, take-append-le, drop_all, drop_at, length-append}
use Rattle.std.proofs.lemmas.Bool.{cases_lt}
use Rattle.std.proofs.Math.Seq.{take-add, take-append-add, take-length}
use Rattle.std.specs.Io.KnownBytes.{Appends, Keeps}
use Rattle.std.proofs.KnownBytes.{Appends-nil, Appends-trans, Appends-kept}
use Rattle.byte_ports.specs.Ports.{AppendsFront, WritesAll, FillsTo}

-- ---- writes

-- all of these bytes are a front of them
pub AppendsFront-whole : (a b : Option (List ℕ)) (xs : List ℕ) → Appends a b xs → AppendsFront a b xs
AppendsFront-whole a b xs p = (length xs, omega arith, subst (Appends a b) (sym (take-length xs)) p)

-- nothing was written
pub AppendsFront-none : (a b : Option (List ℕ)) (xs : List ℕ) → Keeps a b → AppendsFront a b xs
AppendsFront-none a b xs p = (0, omega arith, Appends-kept a a b [] (Appends-nil a) p)

-- all of xs, and then a front of ys
pub AppendsFront-after : (a b c : Option (List ℕ)) (xs ys : List ℕ) → Appends a b xs → AppendsFront b c ys → AppendsFront a c (xs ++ ys)
AppendsFront-after a b c xs ys p (count, within, front) =
    (length xs + count, omega (arith, length-append xs ys), subst (Appends a c) (sym (take-append-add xs ys count)) (Appends-trans a b c xs (take count ys) p front))

-- a front of xs, and then nothing
pub AppendsFront-more : (a b : Option (List ℕ)) (xs ys : List ℕ) → AppendsFront a b xs → AppendsFront a b (xs ++ ys)
AppendsFront-more a b xs ys (count, within, front) =
    (count, omega (arith, length-append xs ys), subst (Appends a b) (sym (take-append-le count xs ys within)) front)

-- a front of xs, and then nothing
pub AppendsFront-kept : (a b c : Option (List ℕ)) (xs : List ℕ) → AppendsFront a b xs → Keeps b c → AppendsFront a c xs
AppendsFront-kept a b c xs (count, within, front) q = (count, within, Appends-kept a b c (take count xs) front q)

-- one more write after xs
pub WritesAll-after : {T E : Type 0} (a b c : Option (List ℕ)) (result : Result T E) (xs ys : List ℕ) → Appends a b xs → WritesAll b c result ys → WritesAll a c result (xs ++ ys)
WritesAll-after a b c (Ok x) xs ys p q = Appends-trans a b c xs ys p q
WritesAll-after a b c (Err e) xs ys p q = AppendsFront-after a b c xs ys p q

-- one more piece of the same bytes
pub Appends-piece : (a b c : Option (List ℕ)) (xs : List ℕ) (at n : ℕ) → Appends a b (take at xs) → Appends b c (take n (take (length xs - at) (drop at xs)))
    → Appends a c (take (at + n) xs)
Appends-piece a b c xs at n p q =
    let joined = ap (λ l. take at xs ++ take n l) (take_rest xs at) ∙ sym (take-add at n xs) in
    subst (Appends a c) joined (Appends-trans a b c _ _ p q)

-- ---- reads

-- what was taken of a list, as much as fits, is its front
told_part : (xs ys out : List ℕ) (n : ℕ) → n ≤ length out → (n < length out → ys ≡ []) → xs ≡ take n out ++ ys
    → (n ≡ min (length out) (length xs)) × (take n out ≡ take (length out) xs) × (ys ≡ drop (length out) xs)
told_part xs ys out n within end taken =
    let long : length (take n out) ≡ n = length-take-le n out within in
    let total : length xs ≡ n + length ys = ap length taken ∙ length-append (take n out) ys ∙ ap (λ m. m + length ys) long in
    elim (cases_lt n (length out)) [
      | inl less ↦
          let none : ys ≡ [] = end less in
          let few : length xs ≤ length out = omega (arith, ap length none) in
          let whole : xs ≡ take n out = taken ∙ ap (λ l. take n out ++ l) none ∙ append-nil (take n out) in
          (omega (arith, ap length none), sym whole ∙ sym (take_all (length out) xs few), none ∙ sym (drop_all (length out) xs few))
      | inr full ↦
          let same : length out ≡ n = omega arith in
          let front : take (length out) xs ≡ take n out = ap (take (length out)) taken ∙ take_at (take n out) ys (length out) (long ∙ sym same) in
          let rest : drop (length out) xs ≡ ys = ap (drop (length out)) taken ∙ drop_at (take n out) ys (length out) (long ∙ sym same) in
          (omega arith, sym front, sym rest)
    ]

-- a source that tells what it has left: as much as fits of it was taken
pub FillsTo-told : (xs : List ℕ) (new : Option (List ℕ)) (out : List ℕ) (n : ℕ) → FillsTo (Some xs) new out n
    → (n ≡ min (length out) (length xs)) × (take n out ≡ take (length out) xs) × (new ≡ Some (drop (length out) xs))
FillsTo-told xs None out n p = absurd p.taken
FillsTo-told xs (Some ys) out n p =
    let told = told_part xs ys out n p.within p.end p.taken in
    (told.0, told.1, ap Some told.2)
