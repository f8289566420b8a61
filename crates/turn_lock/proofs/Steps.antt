-- Each step keeps the rule.
use Rattle.std.proofs.Common.{◌≡◌, ◌≢◌, ◌⊎◌, ℕ, zero, suc, ◌+◌, ◌-◌, ◌*◌, ◌%◌, ◌^◌, ◌<◌, ◌≤◌, cond, eqb, eq-eqb, ne_eqb, le_refl, List, [], ◌∷◌, ◌++◌, length, set, slice_index, Option, Some, None, All, refl, sym, ap, ◌∙◌, subst, inl, inr, ⊎_elim, arith, length-append}
use mathlib.Core.Option.{some, none, some-injective, some-ne-none}
use mathlib.Core.Logic.{dite}
use native.Mathlib.Decide.{ℕ_discrete}
use prog.Atomic.{either}
use Rattle.std.proofs.lemmas.List.Elements.{All-weaker, All-append}
use lib.ListN.{get_elem?}
use Rattle.atomic_table.specs.Table.{State, Me, Act, homes_after, put_back, keeps, takes, gives, Valid, stepped, carried_after, opening, Allows, Splits, Joins}
use Rattle.atomic_table.proofs.Lists.{at_set, set_else, set_again, at_longer, exchanged}
use Rattle.flat_image.specs.declared.stands.Entry.{Entry}
use Rattle.flat_image.specs.Entries.{entry, calls_by, StartsWith}
use Rattle.flat_image.proofs.Entries.{StartsWith-self, StartsWith-nil, StartsWith-longer, calls_by-other}
use Rattle.turn_lock.specs.declared.rule.View.{View}
use Rattle.turn_lock.specs.Ruled.{Owned, IsKept, Knows, Ruled, opener}
use Rattle.turn_lock.specs.Plays.{Sees, Looked, Claimed, named_as, noted, given, with_named, made_one, newcomer, note_of, list_of, joined, spent_view}

pub All-nil : {X : Type 0} (P : X → Type 0) → All P []
All-nil P k d lt = absurd (omega arith)

pub set_there : {X : Type 0} (l : List X) (i : ℕ) (a b : X) → get_elem? l i ≡ some a → get_elem? (set l i b) i ≡ some b
set_there [] i a b e = absurd (some-ne-none a (sym e))
set_there (x ∷ xs) zero a b e = refl
set_there (x ∷ xs) (suc i) a b e = set_there xs i a b e

All-one : {X : Type 0} (P : X → Type 0) (x : X) → P x → All P (x ∷ [])
All-one P x p zero d lt = p
All-one P x p (suc k) d lt = absurd (omega arith)

-- where each element stands once one was added
at_end : {X : Type 0} (l : List X) (a b : X) (j : ℕ) → get_elem? (l ++ a ∷ []) j ≡ some b → (get_elem? l j ≡ some b) ⊎ ((j ≡ length l) × (a ≡ b))
at_end [] a b zero e = inr (refl, some-injective a b e)
at_end [] a b (suc j) e = absurd (some-ne-none b (sym e))
at_end (x ∷ xs) a b zero e = inl e
at_end (x ∷ xs) a b (suc j) e = ⊎_elim inl (λ (t : (j ≡ length xs) × (a ≡ b)). inr (omega arith, t.1)) (at_end xs a b j e)

same_word : (ws : List ℕ) → set ws 0 (slice_index ws 0) ≡ ws
same_word [] = refl
same_word (x ∷ xs) = refl

module _ {A : Type 0} where
  -- who holds the turn still does after a change of one view
  still_holds : (views : List (View A)) (holder id : ℕ) (v w : View A) → get_elem? views id ≡ some v → w.holds ≡ v.holds
      → (u : View A) × (get_elem? views holder ≡ some u) × (u.holds ≡ 1)
      → (u : View A) × (get_elem? (set views id w) holder ≡ some u) × (u.holds ≡ 1)
  still_holds views holder id v w at same h =
      dite (ℕ_discrete holder id)
      (λ e. (
        w,
        subst (λ k. get_elem? (set views id w) k ≡ some w) (sym e) (set_there views id v w at),
        same ∙ (ap (λ (x : View A). x.holds) (some-injective v h.0 (sym at ∙ subst (λ k. get_elem? views k ≡ some h.0) e h.1)) ∙ h.2),
      ))
      (λ ne. (h.0, set_else views id holder w ne ∙ h.1, h.2))

module _ {V A B : Type 0} (stands : V → B → ℕ → List (Entry A) → Type 0) (base : B) (first seats : ℕ) where
  abbrev Rule : State (Option V) (View A) → Type 0
  Rule = Ruled stands base first seats

  abbrev My : Type 0
  My = Me (Option V) (View A)

  -- what a view knows, where the state is as the rule says
  abbrev Known : (s : State (Option V) (View A)) → Rule s → ℕ → View A → Type 0
  Known s r j v = Knows r.log r.held r.holder r.maker r.next r.owner j v

  -- one view changes, and nothing else
  unmoved : (s : State (Option V) (View A)) (r : Rule s) (id : ℕ) (v w : View A) (ws : List ℕ) → ws ≡ s.words → get_elem? s.views id ≡ some v → w.holds ≡ v.holds → Known s r id w
      → Rule record { words = ws; homes = s.homes; views = set s.views id w }
  unmoved s r id v w ws same at holds knows = record {
    log = r.log;
    held = r.held;
    holder = r.holder;
    maker = r.maker;
    next = r.next;
    owner = r.owner;
    word = same ∙ r.word;
    room = r.room;
    bit = r.bit;
    free = r.free;
    taken = λ h. let t = r.taken h in (t.0, still_holds s.views r.holder id v w at holds t.1);
    each_seat = λ j u e. ⊎_elim
        (λ (t : (j ≡ id) × (w ≡ u)). subst (λ (p : ℕ × View A). Known s r p.0 p.1) (λ i. (sym t.0 i, t.1 i)) knows)
        (λ (t : (j ≢ id) × (get_elem? s.views j ≡ some u)). r.each_seat j u t.1)
        (at_set s.views id j w u e);
    limit = r.limit;
    unborn = r.unborn;
  }

  -- a view that has seen the whole history
  seeing : (s : State (Option V) (View A)) (r : Rule s) (id : ℕ) (v : View A) → Known s r id v → Known s r id record v { seen = r.log; kept = [] }
  seeing s r id v knows = record {
    begun = StartsWith-self r.log;
    own = λ k t. let o = knows.own k t in (o.0, o.1, refl);
    lists = All-nil _;
    turn = λ h. let t = knows.turn h in (t.0, t.1, refl, t.3);
    makes = knows.makes;
  }

  sees : (s : State (Option V) (View A)) (r : Rule s) (id : ℕ) (v : View A) → Known s r id v → Sees v r.log
  sees s r id v knows = record {
    seen = record { begun = knows.begun; own = λ k t. (knows.own k t).2 };
    lists = λ k d lt. let l = knows.lists k d lt in record { begun = l.0; own = λ n t. (l.1 n t).2 };
  }

  found_is : (s : State (Option V) (View A)) (r : Rule s) → slice_index s.words 0 ≡ 2 * (first + length r.log) + r.held
  found_is s r = ap (λ ws. slice_index ws 0) r.word

  pub look : (slots id : ℕ) (m : My) → Allows Rule slots id m 0 (λ n. n) (Looked first m)
  look slots id m s r len at lt =
      let knows = r.each_seat id m.0 at in (
        record m.0 { seen = r.log; kept = [] },
        keeps,
        tt,
        unmoved s r id m.0 record m.0 { seen = r.log; kept = [] } _ (same_word s.words) at refl (seeing s r id m.0 knows),
        record { log = r.log; held = r.held; after = refl; sees = sees s r id m.0 knows; word = found_is s r; bit = r.bit; room = r.room },
      )

  pub name : (slots id : ℕ) (m : My) (act : Option A) → Allows Rule slots id m 0 (λ n. n) (λ _. named_as act m)
  name slots id m act s r len at lt =
      let k = r.each_seat id m.0 at in (
        record m.0 { named = act },
        keeps,
        tt,
        unmoved s r id m.0 record m.0 { named = act } _ (same_word s.words) at refl (record { begun = k.begun; own = k.own; lists = k.lists; turn = k.turn; makes = k.makes }),
        refl,
      )

  -- the one slot, whose place has been looked up
  slot_at : (hs : List (mathlib.Core.Option.Option (Option V))) (x : Option V) → hs ≡ some x ∷ [] → get_elem? hs 0 ≡ some (some x)
  slot_at hs x e = ap (λ l. get_elem? l 0) e

  word_is : (ws : List ℕ) (n m k : ℕ) → ws ≡ n ∷ [] → m ≡ k → set ws 0 m ≡ k ∷ []
  word_is ws n m k e q = ap (λ l. set l 0 m) e ∙ ap (λ i. i ∷ []) q

  claims : (s : State (Option V) (View A)) (r : Rule s) (id : ℕ) (m : My) (expected c : ℕ) → expected ≡ 2 * c → c < 4611686018427387904 → 0 < m.0.tag
      → get_elem? s.views id ≡ some m.0 → slice_index s.words 0 ≡ expected
      → (w : View A) × (a : Act (Option V)) × Valid s.homes m.1 a
      × Rule (stepped s 0 (expected + 1) id m.1 w a)
      × Claimed stands base first expected m (slice_index s.words 0) (w, carried_after m.1 a)
  claims s r id m expected c even below tag at is =
      let knows = r.each_seat id m.0 at in
      let none_held : r.held ≡ 0 = omega (arith, found_is s r, is, even, r.bit) in
      let count : first + length r.log ≡ c = omega (arith, found_is s r, is, even, none_held) in
      let found : slice_index s.words 0 ≡ 2 * (first + length r.log) = omega (arith, is, even, count) in
      let f = r.free none_held in
      let x = f.0 in
      let w : View A = record m.0 { seen = r.log; holds = 1; named = None; kept = [] } in
      let own : Knows r.log 1 id r.maker r.next r.owner id w = record {
        begun = StartsWith-self r.log;
        own = λ k t. let o = knows.own k t in (o.0, o.1, refl);
        lists = All-nil _;
        turn = λ _. (refl, refl, refl, tag);
        makes = knows.makes;
      } in (
        w,
        takes 0 (Some x),
        slot_at s.homes (Some x) f.1,
        record {
          log = r.log;
          held = 1;
          holder = id;
          maker = r.maker;
          next = r.next;
          owner = r.owner;
          word = word_is s.words _ (expected + 1) (2 * (first + length r.log) + 1) r.word (omega (arith, even, count));
          room = omega (arith, count, below);
          bit = le_refl 1;
          free = λ h. absurd (omega arith);
          taken = λ _. (ap (λ hs. set hs 0 none) f.1, (w, set_there s.views id m.0 w at, refl));
          each_seat = λ j u e. ⊎_elim
              (λ (t : (j ≡ id) × (w ≡ u)). subst (λ (p : ℕ × View A). Knows r.log 1 id r.maker r.next r.owner p.0 p.1) (λ i. (sym t.0 i, t.1 i)) own)
              (λ (t : (j ≢ id) × (get_elem? s.views j ≡ some u)). let k = r.each_seat j u t.1 in
              record { begun = k.begun; own = k.own; lists = k.lists; turn = λ h. absurd (omega (arith, (k.turn h).0, none_held)); makes = k.makes })
              (at_set s.views id j w u e);
          limit = r.limit;
          unborn = r.unborn;
        },
        record { hit = λ _. record { log = r.log; value = x; after = refl; sees = sees s r id m.0 knows; word = found; stood = f.2 }; miss = λ ne. absurd (ne is) },
      )

  pub claim : (slots id : ℕ) (m : My) (expected c : ℕ) → expected ≡ 2 * c → c < 4611686018427387904 → 0 < m.0.tag
      → Allows Rule slots id m 0 (λ n. either (eqb n expected) (expected + 1) n) (Claimed stands base first expected m)
  claim slots id m expected c even below tag s r len at lt =
      let n = slice_index s.words 0 in
      exchanged n expected (expected + 1)
      (λ k. (w : View A) × (a : Act (Option V)) × Valid s.homes m.1 a
      × Rule (stepped s 0 k id m.1 w a)
      × Claimed stands base first expected m n (w, carried_after m.1 a))
      (λ hit. claims s r id m expected c even below tag at hit)
      (λ miss. let l = look slots id m s r len at lt in (l.0, l.1, l.2, l.3, record { hit = λ h. absurd (miss h); miss = λ _. l.4 }))

  -- a number that no entry was added for
  owned_more : (log : List (Entry A)) (next : ℕ) (owner : ℕ → ℕ) (j tag n : ℕ) (seen : List (Entry A)) (act : A) → (owner n ≢ j) ⊎ (tag ≢ suc n)
      → Owned log next owner j tag seen → Owned (log ++ entry n act ∷ []) next owner j tag seen
  owned_more log next owner j tag n seen act apart h k t =
      let o = h k t in
      let other : n ≢ k = λ e. ⊎_elim (λ ne. ne (ap owner e ∙ o.1)) (λ ne. ne (t ∙ ap suc (sym e))) apart in
      (o.0, o.1, calls_by-other k n log act other ∙ o.2)

  -- what the others know, once one seat has added an entry and let the turn go
  known_more : (s : State (Option V) (View A)) (r : Rule s) (j n : ℕ) (u : View A) (act : A) → r.owner n ≢ j → j ≢ r.holder → Known s r j u
      → Knows (r.log ++ entry n act ∷ []) 0 r.holder r.maker r.next r.owner j u
  known_more s r j n u act apart out k = record {
    begun = StartsWith-longer r.log u.seen (entry n act ∷ []) k.begun;
    own = owned_more r.log r.next r.owner j u.tag n u.seen act (inl apart) k.own;
    lists = All-weaker (IsKept r.log r.next r.owner j u.tag) (IsKept (r.log ++ entry n act ∷ []) r.next r.owner j u.tag)
        (λ l h. (StartsWith-longer r.log l.seen (entry n act ∷ []) h.0, owned_more r.log r.next r.owner j l.tag n l.seen act (inl apart) h.1, h.2)) u.kept k.lists;
    turn = λ h. absurd (out (k.turn h).1);
    makes = k.makes;
  }

  -- the word after a release
  next_word : (n : ℕ) → n < 9223372036854775808 → (n + 1) % 2 ^ 64 ≡ n + 1
  next_word n lt = omega arith

  last_word : (n : ℕ) → 0 < n → n < 9223372036854775809 → (n + (2 ^ 64 - 1)) % 2 ^ 64 ≡ n - 1
  last_word n pos lt = omega arith

  -- the value goes back into its slot
  back : (hs : List (mathlib.Core.Option.Option (Option V))) (c : List (ℕ × Option V)) (x : V) → hs ≡ none ∷ [] → c ≡ (0, Some x) ∷ [] → homes_after hs c gives ≡ some (Some x) ∷ []
  back hs c x e f = λ i. put_back (e i) (f i)

  pub note : (slots id : ℕ) (m : My) (x : V) (act : A) → m.0.holds ≡ 1 → m.1 ≡ (0, Some x) ∷ [] → m.0.named ≡ Some act → stands x base first (m.0.seen ++ entry (m.0.tag - 1) act ∷ [])
      → Allows Rule slots id m 0 (λ n. (n + 1) % 2 ^ 64) (λ _. noted m)
  note slots id m x act holds carried named for s r len at lt =
      let v = m.0 in
      let knows = r.each_seat id v at in
      let t = knows.turn holds in
      let n = v.tag - 1 in
      let tag : v.tag ≡ suc n = omega (arith, t.3) in
      let mine = knows.own n tag in
      let log = r.log ++ entry n act ∷ [] in
      let seen = with_named v.seen n v.named in
      let is : seen ≡ log = ap (with_named v.seen n) named ∙ ap (λ l. l ++ entry n act ∷ []) t.2 in
      let w : View A = record v { seen = seen; holds = 0; named = None } in
      let longer : length log ≡ length r.log + 1 = length-append r.log (entry n act ∷ []) in
      let odd : slice_index s.words 0 ≡ 2 * (first + length r.log) + 1 = omega (arith, found_is s r, t.0) in
      let own : Knows log 0 r.holder r.maker r.next r.owner id w = record {
        begun = subst (StartsWith log) (sym is) (StartsWith-self log);
        own = λ k e. let o = knows.own k e in (o.0, o.1, ap (calls_by k) (sym is));
        lists = All-weaker (IsKept r.log r.next r.owner id v.tag) (IsKept log r.next r.owner id v.tag)
            (λ l h. (
              StartsWith-longer r.log l.seen (entry n act ∷ []) h.0,
              owned_more r.log r.next r.owner id l.tag n l.seen act (inr (λ e. h.2 (omega (arith, e)) (e ∙ sym tag))) h.1,
              h.2,
            )) v.kept knows.lists;
        turn = λ h. absurd (omega arith);
        makes = knows.makes;
      } in (
        w,
        gives,
        tt,
        record {
          log = log;
          held = 0;
          holder = r.holder;
          maker = r.maker;
          next = r.next;
          owner = r.owner;
          word = word_is s.words _ ((slice_index s.words 0 + 1) % 2 ^ 64) (2 * (first + length log) + 0) r.word
              (next_word (slice_index s.words 0) (omega (arith, odd, r.room, t.0)) ∙ omega (arith, odd, longer));
          room = omega (arith, longer, r.room, t.0);
          bit = omega arith;
          free = λ _. (x, back s.homes m.1 x (r.taken t.0).0 carried, subst (λ l. stands x base first (l ++ entry n act ∷ [])) t.2 for);
          taken = λ h. absurd (omega arith);
          each_seat = λ j u e. ⊎_elim
              (λ (p : (j ≡ id) × (w ≡ u)). subst (λ (q : ℕ × View A). Knows log 0 r.holder r.maker r.next r.owner q.0 q.1) (λ i. (sym p.0 i, p.1 i)) own)
              (λ (p : (j ≢ id) × (get_elem? s.views j ≡ some u)). known_more s r j n u act (λ o. p.0 (sym o ∙ mine.1)) (λ h. p.0 (h ∙ sym t.1)) (r.each_seat j u p.1))
              (at_set s.views id j w u e);
          limit = r.limit;
          unborn = λ k le. calls_by-other k n r.log act (λ e. omega (arith, e, mine.0, le)) ∙ r.unborn k le;
        },
        refl,
      )

  pub give : (slots id : ℕ) (m : My) (x : V) → m.0.holds ≡ 1 → m.1 ≡ (0, Some x) ∷ [] → stands x base first m.0.seen
      → Allows Rule slots id m 0 (λ n. (n + (2 ^ 64 - 1)) % 2 ^ 64) (λ _. given m)
  give slots id m x holds carried for s r len at lt =
      let v = m.0 in
      let knows = r.each_seat id v at in
      let t = knows.turn holds in
      let w : View A = record v { holds = 0; named = None } in
      let odd : slice_index s.words 0 ≡ 2 * (first + length r.log) + 1 = omega (arith, found_is s r, t.0) in
      let own : Knows r.log 0 r.holder r.maker r.next r.owner id w = record { begun = knows.begun; own = knows.own; lists = knows.lists; turn = λ h. absurd (omega arith); makes = knows.makes } in (
        w,
        gives,
        tt,
        record {
          log = r.log;
          held = 0;
          holder = r.holder;
          maker = r.maker;
          next = r.next;
          owner = r.owner;
          word = word_is s.words _ ((slice_index s.words 0 + (2 ^ 64 - 1)) % 2 ^ 64) (2 * (first + length r.log) + 0) r.word
              (last_word (slice_index s.words 0) (omega (arith, odd)) (omega (arith, odd, r.room, t.0)) ∙ omega (arith, odd));
          room = omega (arith, r.room, t.0);
          bit = omega arith;
          free = λ _. (x, back s.homes m.1 x (r.taken t.0).0 carried, subst (stands x base first) t.2 for);
          taken = λ h. absurd (omega arith);
          each_seat = λ j u e. ⊎_elim
              (λ (p : (j ≡ id) × (w ≡ u)). subst (λ (q : ℕ × View A). Knows r.log 0 r.holder r.maker r.next r.owner q.0 q.1) (λ i. (sym p.0 i, p.1 i)) own)
              (λ (p : (j ≢ id) × (get_elem? s.views j ≡ some u)). let k = r.each_seat j u p.1 in
              record { begun = k.begun; own = k.own; lists = k.lists; turn = λ h. absurd (p.0 ((k.turn h).1 ∙ sym t.1)); makes = k.makes })
              (at_set s.views id j w u e);
          limit = r.limit;
          unborn = r.unborn;
        },
        refl,
      )

  -- the table at its start
  pub opens : (x : V) → first ≤ 4611686018427387904 → stands x base first [] → Rule (opening (2 * first ∷ []) (Some x ∷ []) opener)
  opens x le for = record {
    log = [];
    held = 0;
    holder = 0;
    maker = 0;
    next = 0;
    owner = λ _. 0;
    word = ap (λ n. n ∷ []) (omega arith);
    room = omega (arith, le);
    bit = omega arith;
    free = λ _. (x, refl, for);
    taken = λ h. absurd (omega arith);
    each_seat = one;
    limit = omega arith;
    unborn = λ _ _. refl;
  }
    where
      one : (j : ℕ) (v : View A) → get_elem? (opener ∷ []) j ≡ some v → Knows [] 0 0 0 0 (λ _. 0) j v
      one zero v e = subst (Knows [] 0 0 0 0 (λ _. 0) 0) (some-injective opener v e) record {
        begun = StartsWith-nil [];
        own = λ k t. absurd (omega arith);
        lists = All-nil _;
        turn = λ h. absurd (omega arith);
        makes = λ _. (refl, refl);
      }
      one (suc j) v e = absurd (some-ne-none v (sym e))

  -- a view that a split makes, and that has not the turn
  grown : (s : State (Option V) (View A)) (r : Rule s) (w : View A) → Known s r (length s.views) w → Rule record { words = s.words; homes = s.homes; views = s.views ++ w ∷ [] }
  grown s r w knows = record {
    log = r.log;
    held = r.held;
    holder = r.holder;
    maker = r.maker;
    next = r.next;
    owner = r.owner;
    word = r.word;
    room = r.room;
    bit = r.bit;
    free = r.free;
    taken = λ h. let t = r.taken h in (t.0, (t.1.0, at_longer s.views (w ∷ []) r.holder t.1.0 t.1.1, t.1.2));
    each_seat = λ j u e. ⊎_elim
        (λ was. r.each_seat j u was)
        (λ (p : (j ≡ length s.views) × (w ≡ u)). subst (λ (q : ℕ × View A). Known s r q.0 q.1) (λ i. (sym p.0 i, p.1 i)) knows)
        (at_end s.views w u j e);
    limit = r.limit;
    unborn = r.unborn;
  }

  pub tell : (id : ℕ) (v : View A) → Splits Rule id v v (note_of v)
  tell id v s r at =
      subst (λ views. Rule record { words = s.words; homes = s.homes; views = views ++ note_of v ∷ [] }) (sym (set_again s.views id v at))
      (grown s r (note_of v) record {
        begun = (r.each_seat id v at).begun;
        own = λ k t. absurd (omega arith);
        lists = All-nil _;
        turn = λ h. absurd (omega arith);
        makes = λ h. absurd (omega arith);
      })

  -- the owners once a number is given out, and once a seat was joined into another
  abbrev born : ℕ → ℕ → (ℕ → ℕ) → ℕ → ℕ
  born next place owner k = cond (eqb k next) place (owner k)

  born_old : (next place : ℕ) (owner : ℕ → ℕ) (k : ℕ) → k < next → born next place owner k ≡ owner k
  born_old next place owner k lt = ap (λ b. cond b place (owner k)) (ne_eqb k next (λ e. omega arith))

  born_new : (next place : ℕ) (owner : ℕ → ℕ) → born next place owner next ≡ place
  born_new next place owner = ap (λ b. cond b place (owner next)) (eq-eqb next next refl)

  owned_before : (log : List (Entry A)) (next place : ℕ) (owner : ℕ → ℕ) (j tag : ℕ) (seen : List (Entry A)) → Owned log next owner j tag seen → Owned log (suc next) (born next place owner) j tag seen
  owned_before log next place owner j tag seen h k t = let o = h k t in (omega (arith, o.0), born_old next place owner k o.0 ∙ o.1, o.2)

  pub make : (id : ℕ) (v : View A) → 0 < v.next → v.next ≤ seats → Splits Rule id v (made_one v) (newcomer v)
  make id v can le s r at =
      let knows = r.each_seat id v at in
      let mk = knows.makes can in
      let place = length (set s.views id (made_one v)) in
      let owner = born r.next place r.owner in
      let old : (j : ℕ) (u : View A) → (0 < u.next → (j ≡ r.maker) × (u.next ≡ suc (suc r.next))) → Known s r j record u { next = 0 } → Knows r.log r.held r.holder r.maker (suc r.next) owner j u
      = λ j u makes k. record {
        begun = k.begun;
        own = owned_before r.log r.next place r.owner j u.tag u.seen k.own;
        lists = All-weaker (IsKept r.log r.next r.owner j u.tag) (IsKept r.log (suc r.next) owner j u.tag) (λ l h. (h.0, owned_before r.log r.next place r.owner j l.tag l.seen h.1, h.2)) u.kept k.lists;
        turn = k.turn;
        makes = makes;
      } in
      let bare : (j : ℕ) (u : View A) → Known s r j u → Known s r j record u { next = 0 }
      = λ j u k. record { begun = k.begun; own = k.own; lists = k.lists; turn = k.turn; makes = λ h. absurd (omega arith) } in
      record {
        log = r.log;
        held = r.held;
        holder = r.holder;
        maker = r.maker;
        next = suc r.next;
        owner = owner;
        word = r.word;
        room = r.room;
        bit = r.bit;
        free = r.free;
        taken = λ h. let t = r.taken h in let u = still_holds s.views r.holder id v (made_one v) at refl t.1 in
            (t.0, (u.0, at_longer (set s.views id (made_one v)) (newcomer v ∷ []) r.holder u.0 u.1, u.2));
        each_seat = λ j u e. ⊎_elim
            (λ was. ⊎_elim
            (λ (p : (j ≡ id) × (made_one v ≡ u)). subst (λ (q : ℕ × View A). Knows r.log r.held r.holder r.maker (suc r.next) owner q.0 q.1) (λ i. (sym p.0 i, p.1 i))
            (old id (made_one v) (λ _. (mk.0, omega (arith, mk.1))) (bare id v knows)))
            (λ (p : (j ≢ id) × (get_elem? s.views j ≡ some u)). let k = r.each_seat j u p.1 in old j u (λ h. absurd (p.0 ((k.makes h).0 ∙ sym mk.0))) (bare j u k))
            (at_set s.views id j (made_one v) u was))
            (λ (p : (j ≡ place) × (newcomer v ≡ u)). subst (λ (q : ℕ × View A). Knows r.log r.held r.holder r.maker (suc r.next) owner q.0 q.1) (λ i. (sym p.0 i, p.1 i)) record {
              begun = StartsWith-nil r.log;
              own = λ k t. let same : r.next ≡ k = omega (arith, mk.1, t) in (omega arith, subst (λ n. owner n ≡ place) same (born_new r.next place r.owner), r.unborn k (omega (arith, same)));
              lists = All-nil _;
              turn = λ h. absurd (omega arith);
              makes = λ h. absurd (omega arith);
            })
            (at_end (set s.views id (made_one v)) (newcomer v) u j e);
        limit = omega (arith, mk.1, le);
        unborn = λ k h. r.unborn k (omega arith);
      }

  -- the owners once the numbers of one seat are with another
  abbrev moved : ℕ → ℕ → (ℕ → ℕ) → ℕ → ℕ
  moved other id owner k = cond (eqb (owner k) other) id (owner k)

  moved_there : (other id : ℕ) (owner : ℕ → ℕ) (k : ℕ) → owner k ≡ other → moved other id owner k ≡ id
  moved_there other id owner k e = ap (λ b. cond b id (owner k)) (eq-eqb (owner k) other e)

  moved_else : (other id : ℕ) (owner : ℕ → ℕ) (k j : ℕ) → j ≢ other → owner k ≡ j → moved other id owner k ≡ j
  moved_else other id owner k j ne e = ap (λ b. cond b id (owner k)) (ne_eqb (owner k) other (λ h. ne (sym e ∙ h))) ∙ e

  owned_now : (log : List (Entry A)) (next : ℕ) (owner owner' : ℕ → ℕ) (j j' tag : ℕ) (seen : List (Entry A)) → ((k : ℕ) → owner k ≡ j → owner' k ≡ j')
      → Owned log next owner j tag seen → Owned log next owner' j' tag seen
  owned_now log next owner owner' j j' tag seen f h k t = let o = h k t in (o.0, f k o.1, o.2)

  -- two seats have no number in common
  apart : (log : List (Entry A)) (next : ℕ) (owner : ℕ → ℕ) (id other tag tag' : ℕ) (seen seen' : List (Entry A)) → other ≢ id
      → Owned log next owner id tag seen → Owned log next owner other tag' seen' → 0 < tag' → tag' ≢ tag
  apart log next owner id other tag zero seen seen' ne h h' pos e = absurd (omega arith)
  apart log next owner id other tag (suc k) seen seen' ne h h' pos e = ne (sym (h' k refl).1 ∙ (h k (sym e)).1)

  pub join : (id other : ℕ) (v w : View A) → w.holds ≡ 0 → Joins Rule id v other w (joined v w) spent_view
  join id other v w idle s r at ne at' =
      let there : get_elem? s.views other ≡ some w = sym (set_else s.views id other (joined v w) ne) ∙ at' in
      let mine = r.each_seat id v at in
      let theirs = r.each_seat other w there in
      let owner = moved other id r.owner in
      let ours : (k : ℕ) → r.owner k ≡ id → owner k ≡ id = λ k e. moved_else other id r.owner k id (λ h. ne (sym h)) e in
      let taken_over : (k : ℕ) → r.owner k ≡ other → owner k ≡ id = λ k e. moved_there other id r.owner k e in
      let own : Knows r.log r.held r.holder r.maker r.next owner id (joined v w) = record {
        begun = mine.begun;
        own = owned_now r.log r.next r.owner owner id id v.tag v.seen ours mine.own;
        lists = All-append (IsKept r.log r.next owner id v.tag) (list_of w ∷ []) (v.kept ++ w.kept)
            (All-one (IsKept r.log r.next owner id v.tag) (list_of w)
            (theirs.begun, owned_now r.log r.next r.owner owner other id w.tag w.seen taken_over theirs.own, apart r.log r.next r.owner id other v.tag w.tag v.seen w.seen ne mine.own theirs.own))
            (All-append (IsKept r.log r.next owner id v.tag) v.kept w.kept
            (All-weaker (IsKept r.log r.next r.owner id v.tag) (IsKept r.log r.next owner id v.tag)
            (λ l h. (h.0, owned_now r.log r.next r.owner owner id id l.tag l.seen ours h.1, h.2)) v.kept mine.lists)
            (All-weaker (IsKept r.log r.next r.owner other w.tag) (IsKept r.log r.next owner id v.tag)
            (λ l h. (h.0, owned_now r.log r.next r.owner owner other id l.tag l.seen taken_over h.1, apart r.log r.next r.owner id other v.tag l.tag v.seen l.seen ne mine.own h.1)) w.kept theirs.lists));
        turn = mine.turn;
        makes = mine.makes;
      } in
      let gone : Knows r.log r.held r.holder r.maker r.next owner other spent_view = record {
        begun = StartsWith-nil r.log;
        own = λ k t. absurd (omega arith);
        lists = All-nil _;
        turn = λ h. absurd (omega arith);
        makes = λ h. absurd (omega arith);
      } in
      let else : (j : ℕ) (u : View A) → j ≢ other → Known s r j u → Knows r.log r.held r.holder r.maker r.next owner j u
      = λ j u nj k. let same : (n : ℕ) → r.owner n ≡ j → owner n ≡ j = λ n e. moved_else other id r.owner n j nj e in record {
        begun = k.begun;
        own = owned_now r.log r.next r.owner owner j j u.tag u.seen same k.own;
        lists = All-weaker (IsKept r.log r.next r.owner j u.tag) (IsKept r.log r.next owner j u.tag) (λ l h. (h.0, owned_now r.log r.next r.owner owner j j l.tag l.seen same h.1, h.2)) u.kept k.lists;
        turn = k.turn;
        makes = k.makes;
      } in
      record {
        log = r.log;
        held = r.held;
        holder = r.holder;
        maker = r.maker;
        next = r.next;
        owner = owner;
        word = r.word;
        room = r.room;
        bit = r.bit;
        free = r.free;
        taken = λ h. let t = r.taken h in let u = still_holds s.views r.holder id v (joined v w) at refl t.1 in
            let away : r.holder ≢ other = λ e. omega (arith, idle, ap (λ (x : View A). x.holds) (some-injective w t.1.0 (sym there ∙ subst (λ k. get_elem? s.views k ≡ some t.1.0) e t.1.1)), t.1.2) in
            (t.0, (u.0, set_else (set s.views id (joined v w)) other r.holder spent_view away ∙ u.1, u.2));
        each_seat = λ j u e. ⊎_elim
            (λ (p : (j ≡ other) × (spent_view ≡ u)). subst (λ (q : ℕ × View A). Knows r.log r.held r.holder r.maker r.next owner q.0 q.1) (λ i. (sym p.0 i, p.1 i)) gone)
            (λ (p : (j ≢ other) × (get_elem? (set s.views id (joined v w)) j ≡ some u)). ⊎_elim
            (λ (q : (j ≡ id) × (joined v w ≡ u)). subst (λ (x : ℕ × View A). Knows r.log r.held r.holder r.maker r.next owner x.0 x.1) (λ i. (sym q.0 i, q.1 i)) own)
            (λ (q : (j ≢ id) × (get_elem? s.views j ≡ some u)). else j u p.0 (r.each_seat j u q.1))
            (at_set s.views id j (joined v w) u p.1))
            (at_set (set s.views id (joined v w)) other j spent_view u e);
        limit = r.limit;
        unborn = r.unborn;
      }
