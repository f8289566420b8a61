-- For whoever takes the list of a lock's seats apart and puts it together again.
use Rattle.std.proofs.Common.{◌≡◌, ◌⊎◌, ℕ, zero, suc, ◌+◌, ◌<◌, List, [], ◌∷◌, ◌++◌, length, get_or, All, false, refl, sym, ap, ◌∙◌, subst, inl, inr, ⊎_elim, arith, length-append}
use Rattle.std.proofs.lemmas.List.{get_or_append_left}
use Rattle.atomic_table.specs.Seated.{TableId}
use Rattle.turn_lock.specs.Locks.{Place, AreSeats}

-- the element that was added last
pub last_is : {X : Type 0} (xs : List X) (x d : X) → get_or (xs ++ x ∷ []) (length xs) d ≡ x
last_is [] x d = refl
last_is (y ∷ ys) x d = last_is ys x d

-- a place of a list that one element was added to
pub get_more : {X : Type 0} (xs : List X) (x d : X) (k : ℕ) → k < length (xs ++ x ∷ [])
    → ((k < length xs) × (get_or (xs ++ x ∷ []) k d ≡ get_or xs k d)) ⊎ ((k ≡ length xs) × (get_or (xs ++ x ∷ []) k d ≡ x))
get_more [] x d zero lt = inr (refl, refl)
get_more [] x d (suc k) lt = absurd (omega arith)
get_more (y ∷ ys) x d zero lt = inl (omega arith, refl)
get_more (y ∷ ys) x d (suc k) lt =
    ⊎_elim
    (λ (p : (k < length ys) × (get_or (ys ++ x ∷ []) k d ≡ get_or ys k d)). inl (omega arith, p.1))
    (λ (p : (k ≡ length ys) × (get_or (ys ++ x ∷ []) k d ≡ x)). inr (omega arith, p.1))
    (get_more ys x d k (omega arith))

module _ {A : Type 0} where
  -- the last seat
  pub last_seat : (lock : TableId) (n : ℕ) (all rest : List (Place A)) (s : Place A) → AreSeats lock n all → all ≡ rest ++ s ∷ [] → (s.lock ≡ lock) × (s.number ≡ length rest) × (s.holds ≡ false)
  last_seat lock n all rest s seats is =
      let lt : length rest < length all = omega (arith, ap (length {A = Place A}) is, length-append rest (s ∷ [])) in
      let at : get_or all (length rest) s ≡ s = ap (λ (l : List (Place A)). get_or l (length rest) s) is ∙ last_is rest s s in
      (subst (λ (x : Place A). x.lock ≡ lock) at (seats.lock_is (length rest) s lt), subst (λ (x : Place A). x.number ≡ length rest) at (seats.numbered (length rest) s lt), subst (λ (x : Place A). x.holds ≡ false) at (seats.idle (length rest) s lt))

  -- the others, once the last was taken
  pub other_seats : (lock : TableId) (n : ℕ) (all rest : List (Place A)) (s : Place A) → AreSeats lock n all → all ≡ rest ++ s ∷ [] → AreSeats lock (length rest) rest
  other_seats lock n all rest s seats is =
      let longer : length all ≡ length rest + 1 = ap (length {A = Place A}) is ∙ length-append rest (s ∷ []) in
      let at : (k : ℕ) (d : Place A) → k < length rest → get_or all k d ≡ get_or rest k d = λ k d lt. ap (λ (l : List (Place A)). get_or l k d) is ∙ get_or_append_left rest (s ∷ []) d k lt in
      record {
        all = refl;
        lock_is = λ k d lt. subst (λ (x : Place A). x.lock ≡ lock) (at k d lt) (seats.lock_is k d (omega (arith, longer, lt)));
        numbered = λ k d lt. subst (λ (x : Place A). x.number ≡ k) (at k d lt) (seats.numbered k d (omega (arith, longer, lt)));
        idle = λ k d lt. subst (λ (x : Place A). x.holds ≡ false) (at k d lt) (seats.idle k d (omega (arith, longer, lt)));
      }

  -- one seat more, put back behind the others
  pub more_seats : (lock : TableId) (n : ℕ) (rest : List (Place A)) (s : Place A) → AreSeats lock n rest → s.lock ≡ lock → s.number ≡ n → s.holds ≡ false → AreSeats lock (n + 1) (rest ++ s ∷ [])
  more_seats lock n rest s seats is number idle =
      let each : (P : Place A → Type 0) → All P rest → P s → All P (rest ++ s ∷ []) = λ P h p k d lt.
      ⊎_elim
      (λ (q : (k < length rest) × (get_or (rest ++ s ∷ []) k d ≡ get_or rest k d)). subst P (sym q.1) (h k d q.0))
      (λ (q : (k ≡ length rest) × (get_or (rest ++ s ∷ []) k d ≡ s)). subst P (sym q.1) p)
      (get_more rest s d k lt) in
      record {
        all = length-append rest (s ∷ []) ∙ ap (λ k. k + 1) seats.all;
        lock_is = each (λ x. x.lock ≡ lock) seats.lock_is is;
        numbered = λ k d lt. ⊎_elim
            (λ (q : (k < length rest) × (get_or (rest ++ s ∷ []) k d ≡ get_or rest k d)). subst (λ (x : Place A). x.number ≡ k) (sym q.1) (seats.numbered k d q.0))
            (λ (q : (k ≡ length rest) × (get_or (rest ++ s ∷ []) k d ≡ s)). subst (λ (x : Place A). x.number ≡ k) (sym q.1) (number ∙ (sym seats.all ∙ sym q.0)))
            (get_more rest s d k lt);
        idle = each (λ x. x.holds ≡ false) seats.idle idle;
      }
