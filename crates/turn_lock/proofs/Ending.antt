-- How a lock ends.
use Rattle.std.proofs.Common.{◌≡◌, ℕ, suc, ◌-◌, ◌<◌, List, Option, Some, None, refl, sym, ap, ◌∙◌, subst, arith, length-append}
use mathlib.Core.Option.{some, some-injective}
use lib.ListN.{get_elem?}
use Rattle.std.proofs.lemmas.List.{get_or_append_left}
use Rattle.std.proofs.lemmas.List.Elements.{All-weaker}
use Rattle.atomic_table.specs.Table.{State, Final, Seen}
use Rattle.flat_image.specs.declared.stands.Entry.{Entry}
use Rattle.turn_lock.specs.declared.rule.Kept.{Kept}
use Rattle.turn_lock.specs.declared.rule.View.{View}
use Rattle.turn_lock.specs.Ruled.{IsKept, Knows, Ruled}
use Rattle.turn_lock.specs.Passes.{Backed, IsBacked, Has, Ends}
use Rattle.turn_lock.specs.Plays.{joined, list_of}

module _ {A : Type 0} where
  backs : (log : List (Entry A)) (held holder maker next : ℕ) (owner : ℕ → ℕ) (j : ℕ) (v : View A) → Knows log held holder maker next owner j v → IsBacked log owner j v
  backs log held holder maker next owner j v k = record {
    own = record { begun = k.begun; own = λ n t. let o = k.own n t in (o.1, o.2) };
    lists = All-weaker (IsKept log next owner j v.tag) (λ l. Backed log owner j l.tag l.seen) (λ l h. record { begun = h.0; own = λ n t. let o = h.1 n t in (o.1, o.2) }) v.kept k.lists;
  }

  -- a view has what its own seat had seen
  pub has_own : (v : View A) (k : ℕ) → v.tag ≡ suc k → Has v k v.seen
  has_own v k tag history owner j b = subst (λ n. Backed history owner j n v.seen) tag b.own

  -- and what it had, once another is joined
  pub has_more : (v w : View A) (k : ℕ) (seen : List (Entry A)) → Has v k seen → Has (joined v w) k seen
  has_more v w k seen h history owner j b = h history owner j record { own = b.own; lists = λ n d lt. subst (λ (l : Kept A). Backed history owner j l.tag l.seen) (get_or_append_left v.kept w.kept d n lt) (b.lists (suc n) d (omega (arith, length-append v.kept w.kept))) }

  -- and what the other had seen
  pub has_other : (v w : View A) (k : ℕ) → w.tag ≡ suc k → Has (joined v w) k w.seen
  has_other v w k tag history owner j b = subst (λ n. Backed history owner j n w.seen) tag (b.lists 0 (list_of w) (omega arith))

module _ {V A B : Type 0} (stands : V → B → ℕ → List (Entry A) → Type 0) (base : B) (first seats : ℕ) where
  -- nobody has the turn
  idle : (s : State (Option V) (View A)) (r : Ruled stands base first seats s) (id : ℕ) (v : View A) → get_elem? s.views id ≡ some v → v.holds ≡ 0
      → ((k : ℕ) → k < seats → (seen : List (Entry A)) × Has v k seen) → r.held ≡ 1 → ⊥
  idle s r id v at none_held all held =
      let t = r.taken held in
      let u = t.1.0 in
      let k = r.each_seat r.holder u t.1.1 in
      let turn = k.turn t.1.2 in
      let n = u.tag - 1 in
      let o = k.own n (omega (arith, turn.3)) in
      let mine = all n (omega (arith, o.0, r.limit)) in
      let there = mine.1 r.log r.owner id (backs r.log r.held r.holder r.maker r.next r.owner id v (r.each_seat id v at)) in
      let same : r.holder ≡ id = sym o.1 ∙ (there.own n refl).0 in
      let is : v ≡ u = some-injective v u (sym at ∙ subst (λ i. get_elem? s.views i ≡ some u) same t.1.1) in
      omega (arith, none_held, ap (λ (x : View A). x.holds) is, t.1.2)

  pub ends : (id : ℕ) (v : View A) (ws : List ℕ) (xs : List (Option V)) → v.holds ≡ 0 → ((k : ℕ) → k < seats → (seen : List (Entry A)) × Has v k seen)
      → Final (Seen (Ruled stands base first seats) id v) ws xs → (x : V) × (get_elem? xs 0 ≡ some (Some x)) × Ends stands base first seats x v
  ends id v ws xs none_held all f =
      let s = f.0 in
      let r = f.1.0 in
      let at = f.1.1 in
      let free : r.held ≡ 0 = (omega (arith, r.bit, idle s r id v at none_held all)) in
      let slot = r.free free in (
        slot.0,
        f.4 0 (Some slot.0) (ap (λ l. get_elem? l 0) slot.1),
        record {
          history = r.log;
          owner = r.owner;
          at = id;
          stood = slot.2;
          backed = backs r.log r.held r.holder r.maker r.next r.owner id v (r.each_seat id v at);
          no_others = λ k le. r.unborn k (omega (arith, r.limit, le));
        },
      )

  -- so the slot has a value
  pub ends_some : (id : ℕ) (v : View A) (ws : List ℕ) (xs : List (Option V)) (slot : Option V) → v.holds ≡ 0 → ((k : ℕ) → k < seats → (seen : List (Entry A)) × Has v k seen)
      → Final (Seen (Ruled stands base first seats) id v) ws xs → get_elem? xs 0 ≡ some slot → slot ≡ None → ⊥
  ends_some id v ws xs slot none_held all f at is =
      let e = ends id v ws xs none_held all f in
      let same : Some e.0 ≡ slot = some-injective (Some e.0) slot (sym e.1 ∙ at) in
      let no : Some e.0 ≡ None = same ∙ is in cc (no)

  -- and the value ends the lock
  pub ends_with : (id : ℕ) (v : View A) (ws : List ℕ) (xs : List (Option V)) (slot : Option V) (x : V) → v.holds ≡ 0 → ((k : ℕ) → k < seats → (seen : List (Entry A)) × Has v k seen)
      → Final (Seen (Ruled stands base first seats) id v) ws xs → get_elem? xs 0 ≡ some slot → slot ≡ Some x → Ends stands base first seats x v
  ends_with id v ws xs slot x none_held all f at is =
      let e = ends id v ws xs none_held all f in
      let same : Some e.0 ≡ Some x = some-injective (Some e.0) slot (sym e.1 ∙ at) ∙ is in
      let value : e.0 ≡ x = cc (same) in
      subst (λ (y : V). Ends stands base first seats y v) value e.2
