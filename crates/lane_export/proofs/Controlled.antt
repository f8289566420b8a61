-- What the control comes to, once its stream was served.
use Rattle.std.proofs.Common.{◌≡◌, ℕ, ◌+◌, sym, ap, ◌∙◌, subst}
use Rattle.flat_image.specs.declared.act.Act.{Act}
use Rattle.flat_image.specs.Entries.{calls_by, StartsWith}
use Rattle.flat_image.specs.History.{History, fault_count}
use Rattle.flat_image.specs.Ports.{PortState}
use Rattle.control_session.specs.declared.control_end.ControlEnd.{ControlEnd}
use Rattle.control_session.specs.Controls.{control}
use Rattle.control_session.specs.Sessions.{Serves}
use Rattle.turn_lock.specs.Locks.{Place, IsLater}
use Rattle.image_control.specs.Seats.{IsSeatOf, HasCounted}
use Rattle.lane_export.specs.Lanes.{Stream, ControlAt, ends_at, ControlDone}

-- the control that was served, whose seat has met others since
pub done-from : (p0 p p1 : PortState) (s0 s s1 : Stream) (new : ControlAt) (seat seat_after : Place Act) (end1 end2 : ControlEnd) → p0 ≡ p → s0 ≡ s → Serves control (ends_at s0 p0) (ends_at s1 p1) end1
    → p1.number ≡ p0.number → IsSeatOf p1 seat → HasCounted p1 seat new.shelf → new.stream ≡ s1 → end2 ≡ end1 → IsLater seat seat_after → ControlDone (ends_at s p) new seat_after end2
done-from p0 p p1 s0 s s1 new seat seat_after end1 end2 port stream serves number is counted stream_after ended later =
    let numbered : seat.number ≡ p.number = sym is.number ∙ (number ∙ ap (λ (q : PortState). q.number) port) in
    record {
      port = p1;
      serves = subst (λ (x : Stream). Serves control (ends_at s p) (ends_at x p1) end2) (sym stream_after)
          (subst (λ (e : ControlEnd). Serves control (ends_at s p) (ends_at s1 p1) e) (sym ended)
          (subst (λ (x : Stream). Serves control (ends_at x p) (ends_at s1 p1) end1) stream
          (subst (λ (q : PortState). Serves control (ends_at s0 q) (ends_at s1 p1) end1) port serves)));
      seen = subst (λ (l : History). StartsWith seat_after.seen l) (sym is.seen) later.seen;
      own = subst (λ (k : ℕ). calls_by k seat_after.seen ≡ calls_by k p1.seen) numbered (later.others ∙ ap (λ (l : History). calls_by seat.number l) (sym is.seen));
      counted = counted ∙ (λ i. fault_count (calls_by (numbered i) (sym is.seen i)) + new.shelf);
    }
