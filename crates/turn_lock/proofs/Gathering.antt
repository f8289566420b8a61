-- The seats of a lock, joined into one pass.
use Rattle.std.proofs.Common.{◌≡◌, ◌==◌, ℕ, zero, suc, ◌-◌, ◌<◌, ◌≤◌, List, [], ◌∷◌, ◌++◌, length, slice_get, get_or, false, Option, Some, refl, sym, ap, ◌∙◌, subst, arith, append_assoc, append-nil, length-append}
use mathlib.Core.Logic.{dite}
use native.Mathlib.Decide.{ℕ_discrete}
use Rattle.std.proofs.lemmas.Option.{slice_get-get_or, get_or_from_slice_get}
use Rattle.atomic_table.specs.Seated.{TableId}
use Rattle.atomic_table.specs.Table.{Me}
use Rattle.flat_image.specs.declared.stands.Entry.{Entry}
use Rattle.flat_image.specs.Entries.{calls_by}
use Rattle.turn_lock.specs.declared.rule.View.{View}
use Rattle.turn_lock.specs.Locks.{Lock, Place, AreSeats, IsHistory}
use Rattle.turn_lock.specs.Passes.{place_of, IsSeat, Backed, Has, Gathers, Ends}
use Rattle.turn_lock.specs.Plays.{joined}
use Rattle.turn_lock.proofs.Dealing.{get_mid, get_below}
use Rattle.turn_lock.proofs.Ending.{has_own, has_more, has_other}

bit_zero : (n : ℕ) → n ≤ 1 → (n == 1) ≡ false → n ≡ 0
bit_zero zero le e = refl
bit_zero (suc zero) le e = absurd cc
bit_zero (suc (suc n)) le e = absurd (omega arith)

module _ {V A : Type 0} where
  -- the seat at place k of the list, once it was taken apart
  pub record Taken (lock : TableId) (k : ℕ) (s : Place A) (z : TableId) (m : Me (Option V) (View A)) : Type 0 where
    pub same : z ≡ lock
    pub idle : m.0.holds ≡ 0
    pub empty : m.1 ≡ []
    pub tag : m.0.tag ≡ suc k
    pub seen : m.0.seen ≡ s.seen

  pub apart : (lock : TableId) (n k : ℕ) (all : List (Place A)) (s : Place A) (z : TableId) (m : Me (Option V) (View A)) → AreSeats lock n all → slice_get all k ≡ Some s → IsSeat m → s ≡ place_of z m → Taken lock k s z m
  apart lock n k all s z m seats at seat is =
      let lt = get_below all k s at in
      let there : get_or all k s ≡ s = get_or_from_slice_get all k s s at in
      let idle : s.holds ≡ false = subst (λ (x : Place A). x.holds ≡ false) there (seats.idle k s lt) in
      let none_held = bit_zero m.0.holds seat.bit (sym (ap (λ (x : Place A). x.holds) is) ∙ idle) in
      record {
        same = sym (ap (λ (x : Place A). x.lock) is) ∙ subst (λ (x : Place A). x.lock ≡ lock) there (seats.lock_is k s lt);
        idle = none_held;
        empty = seat.without none_held;
        tag = let t : m.0.tag - 1 ≡ k = sym (ap (λ (x : Place A). x.number) is) ∙ subst (λ (x : Place A). x.number ≡ k) there (seats.numbered k s lt) in omega (arith, t, seat.numbered);
        seen = sym (ap (λ (x : Place A). x.seen) is);
      }

module _ {A : Type 0} where
  -- what is left of a list
  pub record Rests (all rest : List (Place A)) : Type 0 where
    pub gone : List (Place A)
    pub is : all ≡ rest ++ gone

  -- the view has what the seats from place n on had seen
  pub record GathersFrom (all : List (Place A)) (n : ℕ) (v : View A) : Type 0 where
    pub each : (k : ℕ) (s : Place A) → n ≤ k → slice_get all k ≡ Some s → Has v k s.seen

  pub popped : (all old new : List (Place A)) (s : Place A) → Rests all old → old ≡ new ++ s ∷ [] → Rests all new
  popped all old new s r e = record { gone = s ∷ r.gone; is = r.is ∙ (ap (λ (l : List (Place A)). l ++ r.gone) e ∙ append_assoc new (s ∷ []) r.gone) }

  pub popped_at : (all old new : List (Place A)) (s : Place A) → Rests all old → old ≡ new ++ s ∷ [] → slice_get all (length new) ≡ Some s
  unfolding popped
  popped_at all old new s r e = subst (λ (l : List (Place A)). slice_get l (length new) ≡ Some s) (sym (popped all old new s r e).is) (get_mid new r.gone s)

  pub gathered : (all : List (Place A)) (n : ℕ) (s : Place A) (v : View A) → GathersFrom all (suc n) v → slice_get all n ≡ Some s → Has v n s.seen → GathersFrom all n v
  gathered all n s v g at has = record {
    each = λ k t le e. dite (ℕ_discrete n k)
        (λ same. let one : Some s ≡ Some t = sym at ∙ (ap (slice_get all) same ∙ e) in let is : s ≡ t = cc (one) in subst (λ (p : ℕ × Place A). Has v p.0 p.1.seen) (λ i. (same i, is i)) has)
        (λ ne. g.each k t (omega arith) e);
  }

  pub get_there : (xs : List (Place A)) (k : ℕ) → k < length xs → (x : Place A) × (slice_get xs k ≡ Some x)
  get_there [] k lt = absurd (omega arith)
  get_there (x ∷ xs) zero lt = (x, refl)
  get_there (x ∷ xs) (suc k) lt = get_there xs k (omega arith)

  pub gathers_none : (all : List (Place A)) (v : View A) → GathersFrom all (length all) v
  gathers_none all v = record { each = λ k t le e. absurd (omega (arith, get_below all k t e)) }

  pub whole_rests : (all : List (Place A)) → Rests all all
  whole_rests all = record { gone = []; is = sym (append-nil all) }

abbrev Pass : Type 0 → Type 0 → Type 0
Pass V A = Me (Option V) (View A)

module _ {V A : Type 0} where
  popped_taken : (lock : TableId) (n : ℕ) (all old new : List (Place A)) (s : Place A) (z : TableId) (m : Pass V A) → AreSeats lock n all → Rests all old → old ≡ new ++ s ∷ [] → IsSeat m → s ≡ place_of z m
      → Taken lock (length new) s z m
  popped_taken lock n all old new s z m seats r e seat is = apart lock n (length new) all s z m seats (popped_at all old new s r e) seat is

  pub popped_same : (lock : TableId) (n : ℕ) (all old new : List (Place A)) (s : Place A) (z : TableId) (m : Pass V A) → AreSeats lock n all → Rests all old → old ≡ new ++ s ∷ [] → IsSeat m → s ≡ place_of z m → z ≡ lock
  popped_same lock n all old new s z m seats r e seat is = (popped_taken lock n all old new s z m seats r e seat is).same

  pub popped_idle : (lock : TableId) (n : ℕ) (all old new : List (Place A)) (s : Place A) (z : TableId) (m : Pass V A) → AreSeats lock n all → Rests all old → old ≡ new ++ s ∷ [] → IsSeat m → s ≡ place_of z m
      → (m.0.holds ≡ 0) × (m.1 ≡ [])
  popped_idle lock n all old new s z m seats r e seat is = let t = popped_taken lock n all old new s z m seats r e seat is in (t.idle, t.empty)

  -- the last seat alone
  pub first_gathers : (lock : TableId) (n : ℕ) (all new : List (Place A)) (s : Place A) (z : TableId) (m : Pass V A) → AreSeats lock n all → all ≡ new ++ s ∷ [] → IsSeat m → s ≡ place_of z m
      → GathersFrom all (length new) m.0
  first_gathers lock n all new s z m seats e seat is =
      let t = popped_taken lock n all all new s z m seats (whole_rests all) e seat is in
      let longer : length all ≡ suc (length new) = omega (arith, ap (length {A = Place A}) e, length-append new (s ∷ [])) in
      gathered all (length new) s m.0 (subst (λ k. GathersFrom all k m.0) longer (gathers_none all m.0)) (popped_at all all new s (whole_rests all) e)
      (subst (λ (l : List (Entry A)). Has m.0 (length new) l) t.seen (has_own m.0 (length new) t.tag))

  -- one more, joined into what was gathered
  pub next_gathers : (lock : TableId) (n : ℕ) (all old new : List (Place A)) (s : Place A) (z : TableId) (m o m1 : Pass V A) → AreSeats lock n all → Rests all old → old ≡ new ++ s ∷ [] → IsSeat o → s ≡ place_of z o
      → GathersFrom all (length old) m.0 → m1 ≡ (joined m.0 o.0, m.1) → GathersFrom all (length new) m1.0
  next_gathers lock n all old new s z m o m1 seats r e seat is g join =
      let t = popped_taken lock n all old new s z o seats r e seat is in
      let longer : length old ≡ suc (length new) = omega (arith, ap (length {A = Place A}) e, length-append new (s ∷ [])) in
      let both : View A = joined m.0 o.0 in
      let others : GathersFrom all (suc (length new)) both = record { each = λ k p le at. has_more m.0 o.0 k p.seen (g.each k p (omega (arith, longer, le)) at) } in
      subst (λ (y : Pass V A). GathersFrom all (length new) y.0) (sym join)
      (gathered all (length new) s both others (popped_at all old new s r e) (subst (λ (l : List (Entry A)). Has both (length new) l) t.seen (has_other m.0 o.0 (length new) t.tag)))

module _ {V A B : Type 0} (stands : V → B → ℕ → List (Entry A) → Type 0) (base : B) (first : ℕ) where
  -- what the seats had seen is in the history with which the lock ends
  pub closes : (lock : TableId) (n : ℕ) (all : List (Place A)) (v : View A) (value : V) → AreSeats lock n all → Gathers all v → Ends stands base first n value v
      → (history : List (Entry A)) × stands value base first history × IsHistory all history
  closes lock n all v value seats g e =
      let has : (k : ℕ) (d : Place A) → k < length all → Backed e.history e.owner e.at (suc k) (get_or all k d).seen = λ k d lt. g k (get_or all k d) (slice_get-get_or all k d lt) e.history e.owner e.at e.backed in (
        e.history,
        e.stood,
        record {
          begins = λ k d lt. (has k d lt).begun;
          own = λ k d lt. subst (λ n. calls_by n e.history ≡ calls_by n (get_or all k d).seen) (sym (seats.numbered k d lt)) ((has k d lt).own k refl).1;
          no_others = λ k le. e.no_others k (omega (arith, seats.all, le));
        },
      )

  -- each number below the count is one of a seat
  pub all_gathered : (lock : TableId) (n : ℕ) (all : List (Place A)) (v : View A) → AreSeats lock n all → Gathers all v → (k : ℕ) → k < n → (seen : List (Entry A)) × Has v k seen
  all_gathered lock n all v seats g k lt = let at = get_there all k (omega (arith, seats.all, lt)) in (at.0.seen, g k at.0 at.1)

-- the lock and its seats, as the fields have them
pub closing_seats : {A B : Type 0} (a b : Lock B) (items list : List (Place A)) → a ≡ b → items ≡ list → AreSeats b.id b.seats list → AreSeats a.id a.seats items
closing_seats {A} {B} a b items list same is h = subst (λ (p : Lock B × List (Place A)). AreSeats p.0.id p.0.seats p.1) (λ i. (sym same i, sym is i)) h

pub closing : {V A B : Type 0} (stands : V → B → ℕ → List (Entry A) → Type 0) (a b : Lock B) (items list : List (Place A)) (x : V) → a ≡ b → items ≡ list
    → (history : List (Entry A)) × stands x a.base a.first history × IsHistory items history → (history : List (Entry A)) × stands x b.base b.first history × IsHistory list history
closing {V} {A} {B} stands a b items list x same is h =
    subst (λ (p : Lock B × List (Place A)). (history : List (Entry A)) × stands x p.0.base p.0.first history × IsHistory p.1 history) (λ i. (same i, is i)) h
