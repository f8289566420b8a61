-- From what the steps tell to what the calls promise.
use Rattle.std.proofs.Common.{◌≡◌, ℕ, ◌+◌, ◌-◌, ◌%◌, ◌^◌, ◌<◌, List, [], ◌∷◌, ◌++◌, length, All, false, Option, Some, None, refl, sym, ap, ◌∙◌, subst, arith}
use Rattle.atomic_table.specs.Seated.{TableId}
use Rattle.atomic_table.specs.Table.{State, Me, rest, Allows}
use Rattle.flat_image.specs.declared.stands.Entry.{Entry}
use Rattle.flat_image.specs.Entries.{entry, calls_by, StartsWith}
use Rattle.turn_lock.specs.declared.rule.View.{View}
use Rattle.turn_lock.specs.Ruled.{Ruled}
use Rattle.turn_lock.specs.Locks.{place, IsLater}
use Rattle.turn_lock.specs.Passes.{place_of, IsSeat, HasTurn, IsWord}
use Rattle.turn_lock.specs.Plays.{Continues, Sees, Looked, Taken, named_as, noted, given, with_named, note_of, list_of, joined}
use Rattle.turn_lock.proofs.Steps.{note, give}

pub same_lock : (a b c : TableId) → a ≡ b → b ≡ c → a ≡ c
same_lock a b c p q = p ∙ q

-- a list of one slot
pub whole : {S : Type 0} (c : List (ℕ × S)) (x : ℕ × S) → c ≡ x ∷ [] → c ≡ x ∷ rest c
whole {S} c x e = subst (λ (l : List (ℕ × S)). l ≡ x ∷ rest l) (sym e) refl

abbrev value_in : {S : Type 0} → List (ℕ × Option S) → Option S
value_in [] = None
value_in (x ∷ xs) = x.1

-- what a pass knows and has
abbrev pub Pass : Type 0 → Type 0 → Type 0
Pass V A = Me (Option V) (View A)

module _ {V A : Type 0} where
  -- a pass that has seen more, and nothing new of its own
  later : (z z' : TableId) (m m' : Pass V A) (log : List (Entry A)) → z' ≡ z → 0 < m.0.tag → m'.0.tag ≡ m.0.tag → m'.0.seen ≡ log → Sees m.0 log → IsLater (place_of z m) (place_of z' m')
  later z z' m m' log same numbered tag seen sees = record {
    lock = same;
    number = ap (λ n. n - 1) tag;
    seen = subst (λ (l : List (Entry A)). StartsWith l m.0.seen) (sym seen) sees.seen.begun;
    others = ap (calls_by (m.0.tag - 1)) seen ∙ sees.seen.own (m.0.tag - 1) (omega (arith, numbered));
  }

  pub looked_later : (z z' : TableId) (m m' : Pass V A) (first found : ℕ) → z' ≡ z → IsSeat m → Looked first m found m' → IsLater (place_of z m) (place_of z' m')
  looked_later z z' m m' first found same seat l = later z z' m m' l.log same seat.numbered (ap (λ (x : Pass V A). x.0.tag) l.after) (ap (λ (x : Pass V A). x.0.seen) l.after) l.sees

  pub looked_holds : (m m' : Pass V A) (first found : ℕ) → Looked first m found m' → m'.0.holds ≡ m.0.holds
  looked_holds m m' first found l = ap (λ (x : Pass V A). x.0.holds) l.after

  pub looked_seat : (m m' : Pass V A) (first found : ℕ) → IsSeat m → Looked first m found m' → IsSeat m'
  looked_seat m m' first found seat l = subst (λ (x : Pass V A). IsSeat x) (sym l.after) record { numbered = seat.numbered; bit = seat.bit; without = seat.without; holding = seat.holding }

  pub looked_word : (m m' : Pass V A) (first found : ℕ) → Looked first m found m' → IsWord first m'.0.seen found
  looked_word m m' first found l = subst (λ (x : Pass V A). IsWord first x.0.seen found) (sym l.after) record { held = l.held; is = l.word; bit = l.bit; room = l.room }

module _ {V A B : Type 0} (stands : V → B → ℕ → List (Entry A) → Type 0) (base : B) (first : ℕ) where
  -- the slot that a claim took
  pub taken_slot : (m m1 : Pass V A) (found : ℕ) → m.1 ≡ [] → (t : Taken stands base first m found m1) → m1.1 ≡ (0, Some t.value) ∷ []
  taken_slot m m1 found empty t = ap (λ (x : Pass V A). x.1) t.after ∙ ap (λ l. (0, Some t.value) ∷ l) empty

  -- a claim, and then the value out of the slot
  took_view : (m m1 m2 : Pass V A) (found : ℕ) → (t : Taken stands base first m found m1) → m2 ≡ (m1.0, (0, None) ∷ []) → m2 ≡ (record m.0 { seen = t.log; holds = 1; named = None; kept = [] }, (0, None) ∷ [])
  took_view m m1 m2 found t e = e ∙ ap (λ (x : Pass V A). (x.0, (0, None) ∷ [])) t.after

  pub took_seat : (m m1 m2 : Pass V A) (found : ℕ) → IsSeat m → Taken stands base first m found m1 → m2 ≡ (m1.0, (0, None) ∷ []) → IsSeat m2
  took_seat m m1 m2 found seat t e = subst (λ (x : Pass V A). IsSeat x) (sym (took_view m m1 m2 found t e)) record { numbered = seat.numbered; bit = omega arith; without = λ h. absurd (omega arith); holding = λ _. refl }

  pub took_later : (z z' : TableId) (m m1 m2 : Pass V A) (found : ℕ) → z' ≡ z → IsSeat m → Taken stands base first m found m1 → m2 ≡ (m1.0, (0, None) ∷ []) → IsLater (place_of z m) (place_of z' m2)
  took_later z z' m m1 m2 found same seat t e =
      let v = took_view m m1 m2 found t e in
      later z z' m m2 t.log same seat.numbered (ap (λ (x : Pass V A). x.0.tag) v) (ap (λ (x : Pass V A). x.0.seen) v) t.sees

  pub took_turn : (m m1 m2 : Pass V A) (found : ℕ) (x : V) → m.1 ≡ [] → found < 9223372036854775808 → Taken stands base first m found m1 → m1.1 ≡ (0, Some x) ∷ [] → m2 ≡ (m1.0, (0, None) ∷ [])
      → HasTurn stands base first x m2
  took_turn m m1 m2 found x empty below t had e =
      let v = took_view m m1 m2 found t e in
      let slots : V → List (ℕ × Option V) = λ y. (0, Some y) ∷ [] in
      let two : slots t.value ≡ slots x = sym (taken_slot m m1 found empty t) ∙ had in
      let inner : Some t.value ≡ Some x = ap (value_in {S = V}) two in
      let same : t.value ≡ x = cc (inner) in
      let seen : m2.0.seen ≡ t.log = ap (λ (y : Pass V A). y.0.seen) v in
      record {
        turn = ap (λ (y : Pass V A). y.0.holds) v;
        stood = subst (λ (l : List (Entry A)). stands x base first l) (sym seen) (subst (λ (y : V). stands y base first t.log) same t.stood);
        room = subst (λ (l : List (Entry A)). first + length l < 4611686018427387904) (sym seen) (omega (arith, t.word, below));
      }

  module _ (seats : ℕ) where
    abbrev Rule : State (Option V) (View A) → Type 0
    Rule = Ruled stands base first seats

    -- the release with an entry, once the act was named and the value put back
    pub noting : (slots id : ℕ) (m m1 m2 : Pass V A) (x : V) (act : A) → m.0.holds ≡ 1 → named_as (Some act) m m1 → m2 ≡ (m1.0, (0, Some x) ∷ []) → stands x base first (m.0.seen ++ entry (m.0.tag - 1) act ∷ [])
        → Allows Rule slots id m2 0 (λ n. (n + 1) % 2 ^ 64) (λ _. noted m2)
    noting slots id m m1 m2 x act holds named put for =
        let e : m2 ≡ (record m.0 { named = Some act }, (0, Some x) ∷ []) = put ∙ ap (λ (y : Pass V A). (y.0, (0, Some x) ∷ [])) named in
        note stands base first seats slots id m2 x act (ap (λ (y : Pass V A). y.0.holds) e ∙ holds) (ap (λ (y : Pass V A). y.1) e) (ap (λ (y : Pass V A). y.0.named) e)
        (subst (λ (y : Pass V A). stands x base first (y.0.seen ++ entry (y.0.tag - 1) act ∷ [])) (sym e) for)

    pub giving : (slots id : ℕ) (m m2 : Pass V A) (x : V) → m.0.holds ≡ 1 → m2 ≡ (m.0, (0, Some x) ∷ []) → stands x base first m.0.seen
        → Allows Rule slots id m2 0 (λ n. (n + (2 ^ 64 - 1)) % 2 ^ 64) (λ _. given m2)
    giving slots id m m2 x holds put for =
        give stands base first seats slots id m2 x (ap (λ (y : Pass V A). y.0.holds) put ∙ holds) (ap (λ (y : Pass V A). y.1) put)
        (subst (λ (y : Pass V A). stands x base first y.0.seen) (sym put) for)

module _ {V A : Type 0} where
  noted_view : (m m1 m2 m3 : Pass V A) (x : V) (act : A) → named_as (Some act) m m1 → m2 ≡ (m1.0, (0, Some x) ∷ []) → noted m2 m3
      → m3 ≡ (record m.0 { seen = m.0.seen ++ entry (m.0.tag - 1) act ∷ []; holds = 0; named = None }, [])
  noted_view m m1 m2 m3 x act named put after =
      after ∙ ap (λ (y : Pass V A). (record y.0 { seen = with_named y.0.seen (y.0.tag - 1) y.0.named; holds = 0; named = None }, rest y.1)) (put ∙ ap (λ (y : Pass V A). (y.0, (0, Some x) ∷ [])) named)

  given_view : (m m2 m3 : Pass V A) (x : V) → m2 ≡ (m.0, (0, Some x) ∷ []) → given m2 m3 → m3 ≡ (record m.0 { holds = 0; named = None }, [])
  given_view m m2 m3 x put after = after ∙ ap (λ (y : Pass V A). (record y.0 { holds = 0; named = None }, rest y.1)) put

  pub noted_seat : (m m1 m2 m3 : Pass V A) (x : V) (act : A) → IsSeat m → named_as (Some act) m m1 → m2 ≡ (m1.0, (0, Some x) ∷ []) → noted m2 m3 → IsSeat m3
  noted_seat m m1 m2 m3 x act seat named put after =
      subst (λ (y : Pass V A). IsSeat y) (sym (noted_view m m1 m2 m3 x act named put after)) record { numbered = seat.numbered; bit = omega arith; without = λ _. refl; holding = λ h. absurd (omega arith) }

  pub noted_place : (z z' : TableId) (m m1 m2 m3 : Pass V A) (x : V) (act : A) → z' ≡ z → named_as (Some act) m m1 → m2 ≡ (m1.0, (0, Some x) ∷ []) → noted m2 m3
      → place_of z' m3 ≡ place z (m.0.tag - 1) (m.0.seen ++ entry (m.0.tag - 1) act ∷ []) false
  noted_place z z' m m1 m2 m3 x act same named put after = λ i. place_of (same i) (noted_view m m1 m2 m3 x act named put after i)

  pub given_seat : (m m2 m3 : Pass V A) (x : V) → IsSeat m → m2 ≡ (m.0, (0, Some x) ∷ []) → given m2 m3 → IsSeat m3
  given_seat m m2 m3 x seat put after =
      subst (λ (y : Pass V A). IsSeat y) (sym (given_view m m2 m3 x put after)) record { numbered = seat.numbered; bit = omega arith; without = λ _. refl; holding = λ h. absurd (omega arith) }

  pub given_place : (z z' : TableId) (m m2 m3 : Pass V A) (x : V) → z' ≡ z → m2 ≡ (m.0, (0, Some x) ∷ []) → given m2 m3 → place_of z' m3 ≡ place z (m.0.tag - 1) m.0.seen false
  given_place z z' m m2 m3 x same put after = λ i. place_of (same i) (given_view m m2 m3 x put after i)

  -- what a note had seen, once it was joined and the pass has looked
  pub met : (from note to m1 m2 : Pass V A) (first found : ℕ) → note ≡ (note_of from.0, []) → m1 ≡ (joined to.0 note.0, to.1) → Looked first m1 found m2 → StartsWith m2.0.seen from.0.seen
  met from note to m1 m2 first found made join l =
      let lists = subst (λ (y : Pass V A). All (λ k. Continues l.log k.tag k.seen) y.0.kept) join l.sees.lists in
      let begun : StartsWith l.log note.0.seen = (lists 0 (list_of note.0) (omega arith)).begun in
      subst (λ (y : List (Entry A)). StartsWith y from.0.seen) (sym (ap (λ (y : Pass V A). y.0.seen) l.after)) (subst (λ (y : Pass V A). StartsWith l.log y.0.seen) made begun)
