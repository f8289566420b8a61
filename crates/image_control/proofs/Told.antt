-- What a status tells of the port.
use Rattle.std.proofs.Common.{ℕ, ◌+◌, Bool, List, length, sym, ap, ◌∙◌, length-append}
use Rattle.flat_image.specs.declared.act.Act.{Act}
use Rattle.flat_image.specs.declared.base.Base.{Base}
use Rattle.flat_image.specs.History.{committed}
use Rattle.flat_image.proofs.HistoryLaws.{now-lowers}
use Rattle.turn_lock.specs.Locks.{Lock, Place}
use Rattle.image_core.specs.declared.status.Status.{Status}
use Rattle.shared_image.specs.Turns.{seat_port, Tells}
use Rattle.shared_image.proofs.Charged.{same_none}
use Rattle.control_session.specs.declared.answer.StatusAnswer.TheVariants.{Now}
use Rattle.control_session.specs.ControlTable.{StatusFits}

pub told-now : (tells : Bool) (lock : Lock Base) (shelf : ℕ) (old new : Place Act) (s : Status) (count : ℕ) → Tells (seat_port tells lock old shelf) (seat_port tells lock new shelf) s count
    → StatusFits (seat_port tells lock old shelf) (seat_port tells lock new shelf) (Now s.sectors s.layers count s.pending)
told-now tells lock shelf old new s count t =
    let done = committed lock.base new.seen in (
      t.notes,
      same_none tells lock shelf old new t.notes,
      t.told.sectors,
      t.told.layers ∙ (ap (λ (l : List (List ℕ)). length l + length done) (now-lowers lock.base new.seen) ∙ sym (length-append lock.base.lowers done)),
      t.counted,
      t.told.pending,
    )
