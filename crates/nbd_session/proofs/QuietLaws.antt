-- Where nothing fails and there is room, no request is answered with another error than ENOMEM.
use Rattle.std.proofs.Common.{ℕ, ◌<◌, ◌≤◌, inl, inr, Bool, List, refl, arith}
use Rattle.flat_image.specs.declared.act.Act.{Act}
use Rattle.flat_image.specs.declared.act.Act.TheVariants as act
use Rattle.flat_image.specs.declared.base.Base.{Base}
use Rattle.flat_image.specs.Entries.{StartsWith}
use Rattle.flat_image.specs.History.{History}
use Rattle.flat_image.specs.Ports.{PortState, IsWorn, Notes, HasRoomFor, IsOverFor}
use Rattle.nbd_session.specs.declared.errno.Errno.TheVariants.{Permission, InputOutput, Memory, Invalid, Space, Shutdown}
use Rattle.nbd_session.specs.declared.job.Job.{Job}
use Rattle.nbd_session.specs.declared.job.Job.TheVariants.{Read, Write, Zero, Flush}
use Rattle.nbd_session.specs.Replies.{Answer, Good, Bad}
use Rattle.nbd_session.specs.Fits.{Does}
use Rattle.nbd_session.specs.SessionLaws.{IsTooMuch}
use Rattle.nbd_session.specs.Completeness.{JobHasRoom, IsWell}
use Rattle.nbd_session.proofs.OneAnswer.{does_holds}
use Rattle.nbd_session.proofs.FitsLaws.{does_io}

room_or_over : (base : Base) (seen : History) (change : Act) → HasRoomFor base seen change → IsOverFor base seen change → ⊥
room_or_over base seen change room over = elim over [
  | inl rows ↦ omega (arith, room.rows_fit, rows)
  | inr sectors ↦ omega (arith, room.sectors_fit, sectors)
]

enough : (base : Base) (seen front : History) (job : Job) (items : List ℕ) → JobHasRoom base seen job items → StartsWith seen front → IsTooMuch base front job items → ⊥
enough base seen front (Read at count) items fits within over = over
enough base seen front (Write at count fua) items fits within over = room_or_over base front (act.Write at items) (fits front within) over
enough base seen front (Zero at count fua) items fits within over = room_or_over base front (act.Zero at count) (fits front within) over
enough base seen front Flush items fits within over = over

pub does_well : (takes : Bool) (p q new : PortState) (others : List Act) (job : Job) (items : List ℕ) (answer : Answer) → Does takes p q job items answer → Notes q new others
    → new.faults ≤ p.faults → (IsWorn new → ⊥) → JobHasRoom p.base new.seen job items → IsWell answer
does_well takes p q new others job items (Good bytes) h rest calm going fits = inl (bytes, refl)
does_well takes p q new others job items (Bad Permission) h rest calm going fits = absurd ((does_holds takes p q new others job items (Bad Permission) h rest).1)
does_well takes p q new others job items (Bad InputOutput) h rest calm going fits =
    let rose : p.faults < q.faults = does_io takes p q job items h in
    let never : ⊥ = omega (arith, rose, rest.later, calm) in absurd never
does_well takes p q new others job items (Bad Memory) h rest calm going fits = inr refl
does_well takes p q new others job items (Bad Invalid) h rest calm going fits = absurd ((does_holds takes p q new others job items (Bad Invalid) h rest).1)
does_well takes p q new others job items (Bad Space) h rest calm going fits =
    let (noted, (front, place, over)) = does_holds takes p q new others job items (Bad Space) h rest in
    absurd (enough p.base new.seen front job items fits place.within over)
does_well takes p q new others job items (Bad Shutdown) h rest calm going fits = absurd (going ((does_holds takes p q new others job items (Bad Shutdown) h rest).1))
