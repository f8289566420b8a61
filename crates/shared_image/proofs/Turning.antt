-- What a turn makes of a seat, seen as a port.
use Rattle.std.proofs.Common.{◌≡◌, ℕ, ◌+◌, ◌^◌, ◌<◌, ◌≤◌, Bool, IsTrue, false, List, [], ◌∷◌, ◌++◌, length, refl, sym, ap, ◌∙◌, subst, arith, append_assoc, length-append}
use Rattle.flat_image.specs.declared.act.Act.{Act}
use Rattle.flat_image.specs.declared.act.Act.TheVariants.{Read, Fault, Flush}
use Rattle.flat_image.specs.declared.act.Asked.{Asked}
use Rattle.flat_image.specs.declared.act.Asked.TheVariants.{Nothing}
use Rattle.flat_image.specs.declared.base.Base.{Base}
use Rattle.flat_image.specs.declared.stands.Entry.{Entry}
use Rattle.flat_image.specs.Entries.{entry, calls_by}
use Rattle.flat_image.specs.History.{History, now, size, fault_count, used_rows, used_sectors}
use Rattle.flat_image.specs.Ports.{PortState, IsWorn, Notes, NotesLast, HasRoomFor, IsOverFor, ChangeFails, Flushes}
use Rattle.flat_image.specs.declared.port_fault.PortFault.TheVariants.{Full, Memory, Failed}
use Rattle.sector_extent.specs.declared.extent.Extent.{Extent}
use Rattle.top_writer.specs.Gaps.{AreGaps}
use Rattle.image_core.specs.Pieces.{SnapshotView}
use Rattle.image_core.specs.Planning.{IsPlanOf, ReadsBelow}
use Rattle.image_core.specs.Upper.{IsGap}
use Rattle.image_core.specs.Steps.{IsTold}
use Rattle.image_core.specs.declared.status.Status.{Status}
use Rattle.flat_image.proofs.Entries.{calls_by-append, calls_by-own}
use Rattle.flat_image.proofs.HistoryLaws.{fault_count-append}
use Rattle.turn_lock.specs.Locks.{Lock, Place, place, IsLater}
use Rattle.atomic_table.specs.Seated.{TableId}
use Rattle.shared_image.specs.Turns.{home_of, seat_port, Plans, PlanFails, Tells}

none : {A : Type 0} (xs : List A) → length xs ≡ 0 → xs ≡ []
none [] e = refl
none (x ∷ xs) e = let never : ⊥ = omega (arith, e) in absurd never

-- what comes behind, where it has nothing of a number
behind_none : (k : ℕ) (xs ys : History) → calls_by k (xs ++ ys) ≡ calls_by k xs → calls_by k ys ≡ []
behind_none k xs ys same =
    let long : length (calls_by k xs) + length (calls_by k ys) ≡ length (calls_by k xs) =
    sym (length-append (calls_by k xs) (calls_by k ys)) ∙ ap (length {A = Entry Act}) (sym (calls_by-append k xs ys) ∙ same) in
    none (calls_by k ys) (omega (arith, long))

module _ (tells : Bool) (lock : Lock Base) (shelf : ℕ) (old mid : Place Act) (later : IsLater old mid) where
  abbrev P : Place Act → PortState
  P seat = seat_port tells lock seat shelf

  -- a port of that number, with that seen and those faults
  abbrev port_at : TableId → ℕ → History → ℕ → PortState
  port_at id number seen faults = record { home = home_of id; tells = tells; base = lock.base; first = lock.first; number = number; seen = seen; faults = faults }

  others : calls_by old.number later.seen.rest ≡ []
  others = behind_none old.number old.seen later.seen.rest (ap (calls_by old.number) (sym later.seen.is) ∙ later.others)

  -- its own entries are as they were
  own_same : calls_by mid.number mid.seen ≡ calls_by old.number old.seen
  own_same = ap (λ k. calls_by k mid.seen) later.number ∙ later.others

  pub gave : (new : Place Act) → new ≡ place mid.lock mid.number mid.seen false → lock.first + length mid.seen ≤ 2 ^ 62 → Notes (P old) (P new) []
  gave new is room =
      subst (λ (s : Place Act). Notes (P old) (P s) []) (sym is) (record {
        more = later.seen.rest;
        is = λ i. port_at (later.lock i) (later.number i) (later.seen.is i) (fault_count (calls_by mid.number mid.seen) + shelf);
        own = others;
        later = let same = ap (λ (l : History). fault_count l) own_same in omega (arith, same);
        limit = λ le. room;
      })

  -- the history was not full
  pub unworn : (new : Place Act) → new ≡ place mid.lock mid.number mid.seen false → lock.first + length mid.seen < 2 ^ 62 → IsWorn (P new) → ⊥
  unworn new is room worn =
      let long : length new.seen ≡ length mid.seen = ap (λ (s : Place Act). length s.seen) is in
      omega (arith, long, room, worn)

  -- the turn was given back with an entry
  pub noted : (new : Place Act) (act : Act) → new ≡ place mid.lock mid.number (mid.seen ++ entry mid.number act ∷ []) false → lock.first + length mid.seen < 2 ^ 62
      → Notes (P old) (P new) (act ∷ [])
  noted new act is room =
      let grown : mid.seen ++ entry mid.number act ∷ [] ≡ old.seen ++ (later.seen.rest ++ entry old.number act ∷ []) =
      ap (λ (k : ℕ). mid.seen ++ entry k act ∷ []) later.number ∙ (ap (λ (l : History). l ++ entry old.number act ∷ []) later.seen.is
      ∙ append_assoc old.seen later.seen.rest (entry old.number act ∷ [])) in
      let own : calls_by mid.number (mid.seen ++ entry mid.number act ∷ []) ≡ calls_by old.number old.seen ++ entry mid.number act ∷ [] =
      calls_by-own mid.number mid.seen act ∙ ap (λ (l : History). l ++ entry mid.number act ∷ []) own_same in
      let faults = ap (λ (l : History). fault_count l) own ∙ fault_count-append (calls_by old.number old.seen) (entry mid.number act ∷ []) in
      subst (λ (s : Place Act). Notes (P old) (P s) (act ∷ [])) (sym is) (record {
        more = later.seen.rest ++ entry old.number act ∷ [];
        is = λ i. port_at (later.lock i) (later.number i) (grown i) (fault_count (calls_by mid.number (mid.seen ++ entry mid.number act ∷ [])) + shelf);
        own = calls_by-own old.number later.seen.rest act ∙ ap (λ (l : History). l ++ entry old.number act ∷ []) others;
        later = omega (arith, faults);
        limit = λ le. omega (arith, room, length-append mid.seen (entry mid.number act ∷ []));
      })

  pub seen_last : (new : Place Act) (act : Act) → new ≡ place mid.lock mid.number (mid.seen ++ entry mid.number act ∷ []) false
      → new.seen ≡ (old.seen ++ later.seen.rest) ++ entry old.number act ∷ []
  seen_last new act is =
      ap (λ (s : Place Act). s.seen) is ∙ (ap (λ (k : ℕ). mid.seen ++ entry k act ∷ []) later.number
      ∙ ap (λ (l : History). l ++ entry old.number act ∷ []) later.seen.is)

  -- a failed step counts
  pub rose : (new : Place Act) (asked : Asked) → new ≡ place mid.lock mid.number (mid.seen ++ entry mid.number (Fault asked) ∷ []) false → (P old).faults < (P new).faults
  rose new asked is =
      let own : calls_by mid.number (mid.seen ++ entry mid.number (Fault asked) ∷ []) ≡ calls_by old.number old.seen ++ entry mid.number (Fault asked) ∷ [] =
      calls_by-own mid.number mid.seen (Fault asked) ∙ ap (λ (l : History). l ++ entry mid.number (Fault asked) ∷ []) own_same in
      let faults = ap (λ (l : History). fault_count l) own ∙ fault_count-append (calls_by old.number old.seen) (entry mid.number (Fault asked) ∷ []) in
      subst (λ (s : Place Act). (P old).faults < (P s).faults) (sym is) (omega (arith, faults))

  -- one act was noted last, for which or for what was asked there was room
  pub noted_last : (new : Place Act) (act asked : Act) → new ≡ place mid.lock mid.number (mid.seen ++ entry mid.number act ∷ []) false → lock.first + length mid.seen < 2 ^ 62
      → HasRoomFor lock.base mid.seen asked → NotesLast (P old) (P new) act asked
  noted_last new act asked is room fits = record {
    notes = noted new act is room;
    before = later.seen.rest;
    seen = seen_last new act is;
    room = subst (λ (l : History). HasRoomFor lock.base l asked) later.seen.is fits;
  }

  pub flushed_last : (new : Place Act) → new ≡ place mid.lock mid.number (mid.seen ++ entry mid.number Flush ∷ []) false → lock.first + length mid.seen < 2 ^ 62
      → Flushes (P old) (P new)
  flushed_last new is room = record { notes = noted new Flush is room; before = later.seen.rest; seen = seen_last new Flush is }

  -- a plan without memory
  pub planless_turn : (new : Place Act) → new ≡ place mid.lock mid.number mid.seen false → lock.first + length mid.seen < 2 ^ 62 → PlanFails (P old) (P new) Memory
  planless_turn new is room = (unworn new is room, gave new is (omega (arith, room)))

  -- what a status tells of the value is so of all that was seen
  pub told_turn : (new : Place Act) (status : Status) (count steps : ℕ) → new ≡ place mid.lock mid.number mid.seen false → lock.first + length mid.seen < 2 ^ 62
      → IsTold (now lock.base mid.seen) status → count ≡ lock.first + steps → steps ≡ length mid.seen → Tells (P old) (P new) status count
  told_turn new status count steps is room told counted long = record {
    notes = gave new is (omega (arith, room));
    told = subst (λ (s : Place Act). IsTold (now lock.base s.seen) status) (sym is) told;
    counted = let same : length new.seen ≡ length mid.seen = ap (λ (s : Place Act). length s.seen) is in omega (arith, counted, long, same);
    room = unworn new is room;
  }

  -- a history that was full is full, so the turn was not got
  pub not_full : lock.first + length mid.seen < 2 ^ 62 → IsWorn (P old) → ⊥
  not_full room worn = let long : length mid.seen ≡ length old.seen + length later.seen.rest = ap (length {A = Entry Act}) later.seen.is ∙ length-append old.seen later.seen.rest in omega (arith, room, worn, long)

  -- the history was full
  pub worn_turn : mid.holds ≡ false → lock.first + length mid.seen ≡ 2 ^ 62 → IsWorn (P mid) × Notes (P old) (P mid) []
  worn_turn idle full = (full, gave mid (ap (λ (b : Bool). place mid.lock mid.number mid.seen b) idle) (omega (arith, full)))

  -- a step failed
  pub fault_turn : (new : Place Act) → new ≡ place mid.lock mid.number (mid.seen ++ entry mid.number (Fault Nothing) ∷ []) false → lock.first + length mid.seen < 2 ^ 62
      → ((P old).faults < (P new).faults) × Notes (P old) (P new) (Fault Nothing ∷ [])
  fault_turn new is room = (rose new Nothing is, noted new (Fault Nothing) is room)

  -- a plan that was made
  pub planned_turn : (new : Place Act) (told : Bool) (n : ℕ) (e : Extent) (bytes out : List ℕ) (gaps : List Extent) (s : SnapshotView)
      → new ≡ place mid.lock mid.number (mid.seen ++ entry mid.number (Read e.at e.count) ∷ []) false → lock.first + length mid.seen < 2 ^ 62
      → n ≡ size lock.base mid.seen → e.at + e.count ≤ n → (IsTrue told → IsPlanOf n lock.base mid.seen e.at e.count bytes out)
      → AreGaps (IsGap (now lock.base mid.seen)) e.at (e.at + e.count) gaps → ReadsBelow lock.base mid.seen s
      → Plans told (P old) (P new) e bytes out gaps s
  planned_turn new told n e bytes out gaps s is room same within image are below = record {
    notes = noted new (Read e.at e.count) is room;
    before = later.seen.rest;
    seen = seen_last new (Read e.at e.count) is;
    image = λ t. subst (λ (l : History). IsPlanOf (size lock.base l) lock.base l e.at e.count bytes out) later.seen.is
        (subst (λ (m : ℕ). IsPlanOf m lock.base mid.seen e.at e.count bytes out) same (image t));
    within = subst (λ (l : History). e.at + e.count ≤ size lock.base l) later.seen.is (omega (arith, within, same));
    gaps_are = subst (λ (l : History). AreGaps (IsGap (now lock.base l)) e.at (e.at + e.count) gaps) later.seen.is are;
    below = subst (λ (l : History). ReadsBelow lock.base l s) later.seen.is below;
  }

  -- a change that there was no room for
  pub full_turn : (new : Place Act) (act : Act) (rows filled : ℕ) → new ≡ place mid.lock mid.number mid.seen false → lock.first + length mid.seen < 2 ^ 62
      → IsOverFor lock.base mid.seen act → rows ≡ used_rows lock.base mid.seen → filled ≡ used_sectors lock.base mid.seen → ChangeFails (P old) (P new) act (Full rows filled)
  full_turn new act rows filled is room over r f = (
    unworn new is room,
    subst (λ (s : Place Act). IsOverFor lock.base s.seen act) (sym is) over,
    gave new is (omega (arith, room)),
    r ∙ ap (λ (s : Place Act). used_rows lock.base s.seen) (sym is),
    f ∙ ap (λ (s : Place Act). used_sectors lock.base s.seen) (sym is),
  )

  -- a change without memory
  pub memory_turn : (new : Place Act) (act : Act) → new ≡ place mid.lock mid.number mid.seen false → lock.first + length mid.seen < 2 ^ 62
      → HasRoomFor lock.base mid.seen act → ChangeFails (P old) (P new) act Memory
  memory_turn new act is room fits =
      (unworn new is room, subst (λ (s : Place Act). HasRoomFor lock.base s.seen act) (sym is) fits, gave new is (omega (arith, room)))

  -- a change that failed
  pub failed_turn : (new : Place Act) (act : Act) → new ≡ place mid.lock mid.number (mid.seen ++ entry mid.number (Fault Nothing) ∷ []) false → lock.first + length mid.seen < 2 ^ 62
      → HasRoomFor lock.base mid.seen act → ChangeFails (P old) (P new) act Failed
  failed_turn new act is room fits = (rose new Nothing is, noted_last new (Fault Nothing) act is room fits)
