-- Laws of beginnings, and of the entries with one number.
use Rattle.std.proofs.Common.{◌≡◌, ◌≢◌, ◌==◌, ℕ, ◌≤◌, cond, List, [], ◌∷◌, ◌++◌, length, refl, sym, ap, ◌∙◌, arith, append_assoc, append-nil, length-append, eq-eqb, ne_eqb}
use Rattle.std.proofs.lemmas.List.Elements.{filter-append}
use Rattle.flat_image.specs.declared.stands.Entry.{Entry}
use Rattle.flat_image.specs.Entries.{entry, calls_by, StartsWith}

module _ {A : Type 0} where
  -- a list begins with itself, and with nothing
  pub StartsWith-self : (xs : List A) → StartsWith xs xs
  StartsWith-self xs = record { rest = []; is = sym (append-nil xs) }

  pub StartsWith-nil : (xs : List A) → StartsWith xs []
  StartsWith-nil xs = record { rest = xs; is = refl }

  -- a list that goes on begins with what it was
  pub StartsWith-append : (xs ys : List A) → StartsWith (xs ++ ys) xs
  StartsWith-append xs ys = record { rest = ys; is = refl }

  pub StartsWith-trans : (xs ys zs : List A) → StartsWith xs ys → StartsWith ys zs → StartsWith xs zs
  StartsWith-trans xs ys zs p q = record { rest = q.rest ++ p.rest; is = p.is ∙ (ap (λ (l : List A). l ++ p.rest) q.is ∙ append_assoc zs q.rest p.rest) }

  -- the same where the longer list goes on
  pub StartsWith-longer : (xs ys zs : List A) → StartsWith xs ys → StartsWith (xs ++ zs) ys
  StartsWith-longer xs ys zs p = StartsWith-trans (xs ++ zs) xs ys (StartsWith-append xs zs) p

  pub StartsWith-length : (xs ys : List A) → StartsWith xs ys → length ys ≤ length xs
  StartsWith-length xs ys p = omega (arith, ap (length {A = A}) p.is, length-append ys p.rest)

  pub calls_by-append : (k : ℕ) (xs ys : List (Entry A)) → calls_by k (xs ++ ys) ≡ calls_by k xs ++ calls_by k ys
  calls_by-append k xs ys = filter-append (λ (e : Entry A). e.number == k) xs ys

  -- an entry of the number comes last, and one of another number is not there
  pub calls_by-own : (k : ℕ) (xs : List (Entry A)) (act : A) → calls_by k (xs ++ entry k act ∷ []) ≡ calls_by k xs ++ entry k act ∷ []
  calls_by-own k xs act = calls_by-append k xs (entry k act ∷ []) ∙ ap (λ b. calls_by k xs ++ cond b (entry k act ∷ []) []) (eq-eqb k k refl)

  pub calls_by-other : (k j : ℕ) (xs : List (Entry A)) (act : A) → j ≢ k → calls_by k (xs ++ entry j act ∷ []) ≡ calls_by k xs
  calls_by-other k j xs act apart = calls_by-append k xs (entry j act ∷ []) ∙ (ap (λ b. calls_by k xs ++ cond b (entry j act ∷ []) []) (ne_eqb j k apart) ∙ append-nil (calls_by k xs))
