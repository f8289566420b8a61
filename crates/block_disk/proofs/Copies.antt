-- A map of files that was cloned.
use Rattle.std.proofs.Common.{◌≡◌, ℕ, List, [], ◌∷◌, refl, ap, ◌∙◌}
use Rattle.std.specs.Prelude.{Option, None, Some, Vec, MatchOption, IsSomeAnd}
use Rattle.std.specs.List.{AllZip}
use Rattle.std.specs.BTreeMap.{is_at}
use Rattle.std.specs.Ordering.{nat_cmp}
use Rattle.std.specs.declared.alloc.Global.{Global}
use Rattle.std.proofs.lemmas.Map.Entries.{lookup_clone}
use Rattle.block_disk.specs.FileMap.{FileMap, bytes_in, items_of}

pub all_same : (R : ℕ → ℕ → Type 0) → ((x y : ℕ) → R x y → y ≡ x) → (xs ys : List ℕ) → AllZip R xs ys → ys ≡ xs
all_same R exact [] [] zip = refl
all_same R exact [] (y ∷ ys) zip = absurd zip
all_same R exact (x ∷ xs) [] zip = absurd zip
all_same R exact (x ∷ xs) (y ∷ ys) zip = ap (λ z. z ∷ ys) (exact x y zip.0) ∙ ap (λ zs. x ∷ zs) (all_same R exact xs ys zip.1)

same_items : (D : Vec ℕ Global → Vec ℕ Global → Type 0) → ((v w : Vec ℕ Global) → D v w → w.items ≡ v.items)
    → (a b : Option (Vec ℕ Global)) → MatchOption a (b ≡ None) (λ v. IsSomeAnd b (D v)) → items_of b ≡ items_of a
same_items D exact None b found = ap items_of found
same_items D exact (Some v) None found = absurd found
same_items D exact (Some v) (Some w) found = exact v w found

pub copied_bytes : (C : ℕ → ℕ → Type 0) (D : Vec ℕ Global → Vec ℕ Global → Type 0)
    → ((x y : ℕ) → C x y → y ≡ x) → ((v w : Vec ℕ Global) → D v w → w.items ≡ v.items)
    → (m n : FileMap) → AllZip (λ (p q : ℕ × Vec ℕ Global). C p.0 q.0 × D p.1 q.1) m.entries n.entries
    → (f : ℕ) → bytes_in n f ≡ bytes_in m f
copied_bytes C D exact_key exact_value m n zip f =
    same_items D exact_value _ _ (lookup_clone C D (is_at (nat_cmp f)) (λ x y h. ap (is_at (nat_cmp f)) (exact_key x y h)) m.entries n.entries zip)
