-- What stands of a shared image when it is closed.
use Rattle.std.specs.Prelude.{List, ◌++◌, IsTrue}
use Rattle.flat_image.specs.declared.act.Act.{Act}
use Rattle.flat_image.specs.declared.base.Base.{Base}
use Rattle.flat_image.specs.Entries.{StartsWith}
use Rattle.flat_image.specs.History.{History, committed}
use Rattle.flat_image.specs.Left.{Kept}
use Rattle.turn_lock.specs.Locks.{Lock, Place, IsHistory}
use Rattle.image_core.specs.Laws.{TellSame, ReadSame}
use Rattle.image_core.specs.Parts.{parts_view}
use Rattle.image_core.specs.Seen.{Seen, StandsFor}

-- Two images with their disks are the same to whoever asks them: in size, layers, the commit in progress, and what the top
-- has used; and where both disks tell, as they read, sheet by sheet, committed files byte for byte.
pub record AreSame (base : Base) (x y : Seen) : Type 0 where
  pub told : TellSame (parts_view x.parts) (parts_view y.parts)
  pub read : IsTrue x.tells → IsTrue y.tells → ReadSame base.lowers x.state.seen (parts_view x.parts) y.state.seen (parts_view y.parts)

-- The image stands for one history, in which the entries with the number of a seat are those that the seat has seen.
pub record IsClosed (lock : Lock Base) (seats : List (Place Act)) (image : Seen) : Type 0 where
  pub history : History
  pub stands : StandsFor image lock.base history
  pub is : IsHistory seats history

-- All of what was seen is kept from then on: what a crash leaves of a history that begins with it is made of a front that
-- does so too.
abbrev pub AreKept : History → Type 0
AreKept seen = (history front : History) → StartsWith history seen → Kept history front → StartsWith front seen

-- Committed files stay, and only more come.
abbrev pub StayCommitted : Base → History → History → Type 0
StayCommitted base history more = StartsWith (committed base (history ++ more)) (committed base history)
