-- What a turn makes of a seat that takes a step of a commit.
use Rattle.std.proofs.Common.{◌≡◌, ◌≢◌, ℕ, ◌+◌, ◌^◌, ◌<◌, Bool, false, List, [], ◌∷◌, ◌++◌, length, map, Option, Some, None, sym, ap, subst, arith}
use Rattle.std.specs.Prelude.{Contains}
use Rattle.flat_image.specs.declared.act.Act.{Act}
use Rattle.flat_image.specs.declared.act.Act.TheVariants.{Freeze, Seal, Fault}
use Rattle.flat_image.specs.declared.act.Asked.{Asked}
use Rattle.flat_image.specs.declared.act.Asked.TheVariants.{Nothing, Uuid}
use Rattle.flat_image.specs.declared.base.Base.{Base}
use Rattle.flat_image.specs.Base.{pending_of}
use Rattle.flat_image.specs.Entries.{entry}
use Rattle.flat_image.specs.History.{History, now, committed, Allowed, Proper}
use Rattle.flat_image.specs.LayerReading.{uuid_in}
use Rattle.flat_image.specs.Ports.{PortState}
use Rattle.flat_image.proofs.HistoryLaws.{now-lowers}
use Rattle.turn_lock.specs.Locks.{Lock, Place, place, IsLater}
use Rattle.shared_image.specs.declared.faults.SharedFreezeFault.TheVariants as freeze
use Rattle.shared_image.specs.declared.faults.SharedCopyFault.TheVariants as copy
use Rattle.shared_image.specs.declared.faults.SharedSealFault.TheVariants as seal
use Rattle.shared_image.specs.Turns.{seat_port}
use Rattle.shared_image.specs.Commits.{made_in, layers_in, NotesNone, NotesAllowed, FreezeFails, Copies, CopyFails, Seals, SealFails}
use Rattle.shared_image.proofs.Turning.{gave, unworn, noted, seen_last, rose}

module _ (tells : Bool) (lock : Lock Base) (shelf : ℕ) (old mid : Place Act) (later : IsLater old mid) where
  abbrev P : Place Act → PortState
  P seat = seat_port tells lock seat shelf

  -- what the image is made of in this turn
  abbrev here : Base
  here = now lock.base mid.seen

  abbrev Given : Place Act → Type 0
  Given new = new ≡ place mid.lock mid.number mid.seen false

  abbrev Noted : Place Act → Act → Type 0
  Noted new act = new ≡ place mid.lock mid.number (mid.seen ++ entry mid.number act ∷ []) false

  abbrev Room : Type 0
  Room = lock.first + length mid.seen < 2 ^ 62

  -- nothing was noted
  pub none_turn : (new : Place Act) → Given new → Room → NotesNone (P old) (P new)
  none_turn new is room = (unworn tells lock shelf old mid later new is room, gave tells lock shelf old mid later new is (omega (arith, room)))

  -- what is so in the turn is so of all that was seen
  pub here_turn : (new : Place Act) (Is : Base → Type 0) → Given new → Is here → Is (made_in (P new))
  here_turn new Is is so = subst (λ (s : Place Act). Is (now lock.base s.seen)) (sym is) so

  -- one act was noted, where that one was allowed
  pub allowed_turn : (new : Place Act) (act asked : Act) → Noted new act → Room → Allowed here asked → NotesAllowed (P old) (P new) act asked
  allowed_turn new act asked is room may = record {
    notes = noted tells lock shelf old mid later new act is room;
    before = later.seen.rest;
    seen = seen_last tells lock shelf old mid later new act is;
    allowed = subst (λ (h : History). Allowed (now lock.base h) asked) later.seen.is may;
  }

  pub refused_turn : (new : Place Act) (asked : Asked) (wanted : Act) → Noted new (Fault asked) → Room → Allowed here wanted
      → ((P old).faults < (P new).faults) × NotesAllowed (P old) (P new) (Fault asked) wanted
  refused_turn new asked wanted is room may = (rose tells lock shelf old mid later new asked is, allowed_turn new (Fault asked) wanted is room may)

  -- ---- a freeze that is refused

  pub busy_turn : (new : Place Act) (uuid other : List ℕ) → Given new → Room → pending_of here.frozen ≡ Some other → FreezeFails (P old) (P new) uuid (freeze.Busy other)
  busy_turn new uuid other is room so = (none_turn new is room, here_turn new (λ (b : Base). pending_of b.frozen ≡ Some other) is so)

  -- the layers, as the base and the history have them
  same_layers : here.lowers ++ here.done ≡ lock.base.lowers ++ committed lock.base mid.seen
  same_layers = ap (λ (l : List (List ℕ)). l ++ committed lock.base mid.seen) (now-lowers lock.base mid.seen)

  layers_turn : (new : Place Act) (Is : List (List ℕ) → Type 0) → Given new → Is (here.lowers ++ here.done) → Is (layers_in (P new))
  layers_turn new Is is so = subst (λ (s : Place Act). Is (lock.base.lowers ++ committed lock.base s.seen)) (sym is) (subst Is same_layers so)

  pub many_turn : (new : Place Act) (uuid : List ℕ) → Given new → Room → pending_of here.frozen ≡ None → length (here.lowers ++ here.done) ≡ 255
      → FreezeFails (P old) (P new) uuid freeze.TooMany
  many_turn new uuid is room idle many =
      (none_turn new is room, here_turn new (λ (b : Base). pending_of b.frozen ≡ None) is idle, layers_turn new (λ (l : List (List ℕ)). length l ≡ 255) is many)

  pub twice_turn : (new : Place Act) (uuid : List ℕ) → Given new → Room → pending_of here.frozen ≡ None → length (here.lowers ++ here.done) < 255
      → Contains (map uuid_in (here.lowers ++ here.done)) uuid → FreezeFails (P old) (P new) uuid freeze.UuidTwice
  twice_turn new uuid is room idle few twice = (
    none_turn new is room,
    here_turn new (λ (b : Base). pending_of b.frozen ≡ None) is idle,
    layers_turn new (λ (l : List (List ℕ)). length l < 255) is few,
    layers_turn new (λ (l : List (List ℕ)). Contains (map uuid_in l) uuid) is twice,
  )

  pub forgetful_turn : (new : Place Act) (uuid : List ℕ) → Given new → Room → Allowed here (Freeze uuid) → FreezeFails (P old) (P new) uuid freeze.Memory
  forgetful_turn new uuid is room may = (none_turn new is room, here_turn new (λ (b : Base). Allowed b (Freeze uuid)) is may)

  -- ---- a copy, and a seal

  pub copied_turn : (new : Place Act) (uuid : List ℕ) → Given new → Room → pending_of here.frozen ≡ Some uuid → Copies (P old) (P new) uuid
  copied_turn new uuid is room so = (none_turn new is room, here_turn new (λ (b : Base). Allowed b (Seal uuid)) is so)

  pub other_turn : (new : Place Act) (uuid : List ℕ) (other : Option (List ℕ)) → Given new → Room → pending_of here.frozen ≡ other → other ≢ Some uuid → Proper lock.base mid.seen
      → CopyFails (P old) (P new) uuid (copy.NotPending other) × SealFails (P old) (P new) uuid (seal.NotPending other)
  other_turn new uuid other is room so not_it proper =
      let none = none_turn new is room in
      let there = here_turn new (λ (b : Base). pending_of b.frozen ≡ other) is so in
      let kept = subst (λ (s : Place Act). Proper lock.base s.seen) (sym is) proper in
      ((none, there, not_it, kept), (none, there, not_it, kept))

  pub whole_turn : (new : Place Act) (uuid : List ℕ) (done total : ℕ) → Given new → Room → pending_of here.frozen ≡ Some uuid → done < total
      → SealFails (P old) (P new) uuid (seal.NotWhole done total)
  whole_turn new uuid done total is room so less = (none_turn new is room, here_turn new (λ (b : Base). Allowed b (Seal uuid)) is so, less)

  pub sealed_turn : (new : Place Act) (uuid : List ℕ) (epoch : ℕ) → Noted new (Seal uuid) → Room → pending_of here.frozen ≡ Some uuid → epoch ≡ length here.done
      → Seals (P old) (P new) uuid epoch
  unfolding allowed_turn
  sealed_turn new uuid epoch is room may counted = record {
    sealed = allowed_turn new (Seal uuid) (Seal uuid) is room may;
    epoch_is = subst (λ (h : History). epoch ≡ length (committed lock.base h)) later.seen.is counted;
  }
