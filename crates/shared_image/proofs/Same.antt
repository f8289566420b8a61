-- Two images of one history, on disks of any kind, are the same.
use Rattle.std.proofs.Common.{Bool, IsTrue, true, false, refl, subst}
use Rattle.flat_image.specs.declared.base.Base.{Base}
use Rattle.flat_image.specs.History.{History}
use Rattle.image_core.specs.Parts.{parts_view}
use Rattle.image_core.specs.Seen.{Seen}
use Rattle.image_core.specs.Standing.{ViewStands}
use Rattle.image_core.proofs.StandLaws.{history-tells}
use Rattle.shared_image.specs.Closed.{AreSame}

-- an image with its disk, as far as such a disk tells
abbrev StandsAs : Bool → Seen → Base → History → Type 0
StandsAs tells x base history = ViewStands tells x.state x.faults (parts_view x.parts) base history

untold : (x : Seen) (base : Base) (history : History) → StandsAs x.tells x base history → StandsAs false x base history
untold x base history s = record {
  base_is = s.base_is;
  few = s.few;
  proper = s.proper;
  view = s.view;
  told = λ never. absurd (cc never);
  crash = s.crash;
  failed = s.failed;
  steps = s.steps;
}

told_all : (x : Seen) (base : Base) (history : History) → IsTrue x.tells → StandsAs x.tells x base history → StandsAs true x base history
told_all x base history told s = subst (λ (tells : Bool). StandsAs tells x base history) told s

pub same-images : (x y : Seen) (base : Base) (history : History) → StandsAs x.tells x base history → StandsAs y.tells y base history → AreSame base x y
same-images x y base history s t = record {
  told = (history-tells false x.state x.faults (parts_view x.parts) y.state y.faults (parts_view y.parts) base history
      (untold x base history s) (untold y base history t)).0;
  read = λ one other. (history-tells true x.state x.faults (parts_view x.parts) y.state y.faults (parts_view y.parts) base history
      (told_all x base history one s) (told_all y base history other t)).1 refl;
}
