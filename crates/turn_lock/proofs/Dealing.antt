-- Lists of seats.
use Rattle.std.proofs.Common.{◌≡◌, ◌⊎◌, ℕ, zero, suc, ◌+◌, ◌-◌, ◌<◌, List, [], ◌∷◌, ◌++◌, length, slice_get, get_or, All, false, Option, Some, refl, sym, ap, ◌∙◌, subst, inl, inr, ⊎_elim, arith, length-append}
use Rattle.std.proofs.lemmas.Option.{slice_get-get_or}
use Rattle.atomic_table.specs.Seated.{TableId}
use Rattle.atomic_table.specs.Table.{Me}
use Rattle.turn_lock.specs.declared.rule.View.{View}
use Rattle.turn_lock.specs.Locks.{Place, place, AreSeats}
use Rattle.turn_lock.specs.Passes.{place_of, IsSeat, AreNew}
use Rattle.turn_lock.specs.Plays.{newcomer}

module _ {X : Type 0} where
  -- where each element stands once one was added
  pub get_end : (l : List X) (a b : X) (j : ℕ) → slice_get (l ++ a ∷ []) j ≡ Some b → (slice_get l j ≡ Some b) ⊎ ((j ≡ length l) × (a ≡ b))
  get_end [] a b zero e = inr (refl, cc (e))
  get_end [] a b (suc j) e = absurd cc
  get_end (x ∷ xs) a b zero e = inl e
  get_end (x ∷ xs) a b (suc j) e = ⊎_elim inl (λ (t : (j ≡ length xs) × (a ≡ b)). inr (omega arith, t.1)) (get_end xs a b j e)

  pub get_mid : (xs ys : List X) (y : X) → slice_get (xs ++ y ∷ ys) (length xs) ≡ Some y
  get_mid [] ys y = refl
  get_mid (x ∷ xs) ys y = get_mid xs ys y

  pub get_below : (xs : List X) (k : ℕ) (x : X) → slice_get xs k ≡ Some x → k < length xs
  get_below [] k x e = absurd cc
  get_below (y ∷ ys) zero x e = omega arith
  get_below (y ∷ ys) (suc k) x e = let h = get_below ys k x e in omega arith

module _ {V A : Type 0} where
  -- a new seat, behind the others
  pub new_more : (z z' : TableId) (k : ℕ) (seats : List (Place A)) (v : View A) (m : Me (Option V) (View A)) → AreNew z k seats → z' ≡ z → v.next ≡ k + 1 → m ≡ (newcomer v, []) → AreNew z (k + 1) (seats ++ place_of z' m ∷ [])
  new_more z z' k seats v m new same next made = record {
    all = length-append seats (place_of z' m ∷ []) ∙ ap (λ n. n + 1) new.all;
    each = λ j s e. ⊎_elim
        (λ was. new.each j s was)
        (λ (t : (j ≡ length seats) × (place_of z' m ≡ s)). sym t.1 ∙ is j (t.0 ∙ new.all))
        (get_end seats (place_of z' m) s j e);
  }
    where
      is : (j : ℕ) → j ≡ k → place_of z' m ≡ place z j [] false
      is j at = let e : place_of z' m ≡ place z (v.next - 1) [] false = λ i. place_of (same i) (made i) in e ∙ ap (λ n. place z n [] false) (omega (arith, next, at))

  pub new_seat : (v : View A) (m : Me (Option V) (View A)) → 0 < v.next → m ≡ (newcomer v, []) → IsSeat m
  new_seat v m can made = subst (λ (x : Me (Option V) (View A)). IsSeat x) (sym made) record { numbered = can; bit = omega arith; without = λ _. refl; holding = λ h. absurd (omega arith) }

module _ {A : Type 0} where
  pub new_seats : (z : TableId) (n : ℕ) (seats : List (Place A)) → AreNew z n seats → AreSeats z n seats
  new_seats z n seats new =
      let is : (k : ℕ) (d : Place A) → k < length seats → get_or seats k d ≡ place z k [] false = λ k d lt. new.each k (get_or seats k d) (slice_get-get_or seats k d lt) in
      record {
        all = new.all;
        lock_is = λ k d lt. ap (λ (x : Place A). x.lock) (is k d lt);
        numbered = λ k d lt. ap (λ (x : Place A). x.number) (is k d lt);
        idle = λ k d lt. ap (λ (x : Place A). x.holds) (is k d lt);
      }

  pub new_fresh : (z : TableId) (n : ℕ) (seats : List (Place A)) → AreNew z n seats → All (λ s. s.seen ≡ []) seats
  new_fresh z n seats new k d lt = ap (λ (x : Place A). x.seen) (new.each k (get_or seats k d) (slice_get-get_or seats k d lt))

  -- the seats that were dealt, as a list
  pub dealt : (z z' : TableId) (n : ℕ) (items seats : List (Place A)) → AreNew z n items → z ≡ z' → seats ≡ items → AreSeats z' n seats × All (λ s. s.seen ≡ []) seats
  dealt z z' n items seats new same is =
      let now : AreNew z' n seats = subst (λ (p : TableId × List (Place A)). AreNew p.0 n p.1) (λ i. (same i, sym is i)) new in
      (new_seats z' n seats now, new_fresh z' n seats now)
