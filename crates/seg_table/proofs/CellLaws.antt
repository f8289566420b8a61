-- What a list of segments says of a sector, one segment on.
use Rattle.std.proofs.Common.{◌≡◌, ℕ, ◌+◌, ◌^◌, ◌<◌, ◌≤◌, ◌⊎◌, inl, inr, subst, Contains, List, [], ◌∷◌, ◌++◌, length, take, get_or, Option, Some, None, refl, sym, ap, ◌∙◌, arith}
use Rattle.std.specs.Option.{option_or}
use Rattle.std.proofs.lemmas.Bool.{cond-true, cond-false, le-leb, lt-ltb, and_from, and_parts, leb-true, ltb-true, false_from_ne_true}
use Rattle.std.proofs.lemmas.List.{take_more}
use Rattle.std.proofs.lemmas.List.Elements.{Contains-push_cases}
use Rattle.sector_extent.specs.Places.{IsIn}
use Rattle.seg_table.specs.declared.segment.Segment.{Segment}
use Rattle.seg_table.specs.Cells.{has, said_by, what_at, cell_in, Sets, IsEdge}

-- a segment says its own of a sector that it has, and nothing of another
pub said_by_in : (s : Segment) (p : ℕ) → IsIn s.extent p → said_by s p ≡ Some (what_at s p)
said_by_in s p h = cond-true (has s.extent p) _ _ (and_from _ _ (le-leb _ _ h.from) (lt-ltb _ _ h.below))

pub said_by_out : (s : Segment) (p : ℕ) → (IsIn s.extent p → ⊥) → said_by s p ≡ None
said_by_out s p h = cond-false (has s.extent p) _ _ (false_from_ne_true _ (λ e. let q = and_parts _ _ e in h (record { from = leb-true _ _ q.0; below = ltb-true _ _ q.1 })))

pub option_or-none : {T : Type 0} (o : Option T) → o ≡ option_or o None
option_or-none None = refl
option_or-none (Some x) = refl

pub option_or-assoc : {T : Type 0} (a b c : Option T) → option_or (option_or a b) c ≡ option_or a (option_or b c)
option_or-assoc None b c = refl
option_or-assoc (Some x) b c = refl

-- the last segment comes first
pub cell_in-push : (xs : List Segment) (s : Segment) (p : ℕ) → cell_in (xs ++ s ∷ []) p ≡ option_or (said_by s p) (cell_in xs p)
cell_in-push [] s p = option_or-none (said_by s p)
cell_in-push (x ∷ xs) s p = ap (λ o. option_or o (said_by x p)) (cell_in-push xs s p) ∙ option_or-assoc (said_by s p) (cell_in xs p) (said_by x p)

-- a segment that has the sector hides those before it
pub cell_in-hit : (xs : List Segment) (i : ℕ) (s : Segment) (p : ℕ) → i < length xs → get_or xs i s ≡ s → IsIn s.extent p → cell_in (take (i + 1) xs) p ≡ Some (what_at s p)
cell_in-hit xs i s p l e h =
    ap (λ ys. cell_in ys p) (take_more xs i s l ∙ ap (λ x. take i xs ++ x ∷ []) e)
    ∙ cell_in-push (take i xs) s p ∙ ap (λ o. option_or o (cell_in (take i xs) p)) (said_by_in s p h)

-- one that does not have it hides nothing
pub cell_in-passed : (xs : List Segment) (i : ℕ) (s : Segment) (p : ℕ) → i < length xs → get_or xs i s ≡ s → (IsIn s.extent p → ⊥) → cell_in (take (i + 1) xs) p ≡ cell_in (take i xs) p
cell_in-passed xs i s p l e h =
    ap (λ ys. cell_in ys p) (take_more xs i s l ∙ ap (λ x. take i xs ++ x ∷ []) e)
    ∙ cell_in-push (take i xs) s p ∙ ap (λ o. option_or o (cell_in (take i xs) p)) (said_by_out s p h)

-- no segment has a sector past the greatest image
pub cell_in-outside : (xs : List Segment) (p : ℕ) → 2 ^ 31 ≤ p → cell_in xs p ≡ None
cell_in-outside [] p h = refl
cell_in-outside (x ∷ xs) p h =
    let fits : x.extent.at + x.extent.count ≤ 2 ^ 31 = x.extent.in_image in
    ap (λ o. option_or o (said_by x p)) (cell_in-outside xs p h) ∙ said_by_out x p (λ i. let b = i.below in absurd (omega arith))

-- a segment more sets the cells of its sectors, and no others
pub Sets-push : (xs ys : List Segment) (s : Segment) → ys ≡ xs ++ s ∷ [] → Sets (cell_in xs) (cell_in ys) s
Sets-push xs ys s e = record {
  inside = λ p i. ap (λ zs. cell_in zs p) e ∙ cell_in-push xs s p ∙ ap (λ o. option_or o (cell_in xs p)) (said_by_in s p i);
  outside = λ p n. ap (λ zs. cell_in zs p) e ∙ cell_in-push xs s p ∙ ap (λ o. option_or o (cell_in xs p)) (said_by_out s p n);
}

-- and its edges are its own
pub IsEdge-push : (xs ys : List Segment) (s : Segment) → ys ≡ xs ++ s ∷ [] → (p : ℕ) → IsEdge ys p
    → IsEdge xs p ⊎ ((p ≡ s.extent.at) ⊎ (p ≡ s.extent.at + s.extent.count))
IsEdge-push xs ys s e p (k, x, l, r, h) =
    let C : List Segment → Type 0 = λ zs. Contains zs x in
    let there : C (xs ++ s ∷ []) = subst C e (k, l, r) in
    elim (Contains-push_cases xs s x there) [
      | inl c ↦ inl (c.0, x, c.1, c.2, h)
      | inr q ↦ inr (edge_of s x p q h)
    ]
  where
    edge_of : (s x : Segment) (p : ℕ) → s ≡ x → (x.extent.at ≡ p) ⊎ (x.extent.at + x.extent.count ≡ p) → (p ≡ s.extent.at) ⊎ (p ≡ s.extent.at + s.extent.count)
    edge_of s x p q (inl a) = inl (sym a ∙ sym (ap (λ z. z.extent.at) q))
    edge_of s x p q (inr b) = inr (sym b ∙ sym (ap (λ z. z.extent.at + z.extent.count) q))
