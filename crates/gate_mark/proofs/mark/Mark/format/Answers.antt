use Rattle.std.proofs.Common.{◌≡◌, length, rules, inl, inr, refl}
use Rattle.std.specs.Prelude.{replicate}
use Rattle.std.specs.Int.{to_le_bytes, w64}
use Rattle.block_disk.specs.Changes.{put}
use Rattle.gate_mark.specs.declared.mark.Rest.TheVariants.{Closed}
use Rattle.gate_mark.specs.declared.mark.Slot.TheVariants.{First}
use Rattle.gate_mark.specs.Shown.{shown}
use Rattle.gate_mark.specs.Through.{IsTorn}
use Rattle.gate_mark.proofs.NewFile.{format_leaves}
use Rattle.gate_mark.proofs.Runs.{any_run, any_joined, format_done}
use Rattle.gate_mark.proofs.SlotWrites.{attempt_bytes_hold}
use Rattle.gate_mark.proofs.mark.Mark.format.Goals as goal

pub returns-in_err-clear-clause-any_moment : goal.returns-in_err-clear-clause-any_moment
returns-in_err-clear-clause-any_moment g c = c.clear.ensures.run

pub returns-in_err-write_through-clause-any_moment : goal.returns-in_err-write_through-clause-any_moment
returns-in_err-write_through-clause-any_moment g c =
    any_joined c.args.file (g.D.Disk.state c.args.disk.now) (g.D.Disk.state c.clear.new.disk) (g.D.Disk.state c.write_through.new.disk) c.clear.ensures.run
    (any_run c.args.file (g.D.Disk.state c.clear.new.disk) (g.D.Disk.state c.write_through.new.disk) (IsTorn (g.D.Disk.state c.clear.new.disk) c.args.file 0 (length c.closed_slots.result)) c.write_through.ensures.run)

pub returns-in_err-write_through-2-clause-any_moment : goal.returns-in_err-write_through-2-clause-any_moment
returns-in_err-write_through-2-clause-any_moment g c =
    let first = any_joined c.args.file (g.D.Disk.state c.args.disk.now) (g.D.Disk.state c.clear.new.disk) (g.D.Disk.state c.write_through.new.disk) c.clear.ensures.run
    (any_run c.args.file (g.D.Disk.state c.clear.new.disk) (g.D.Disk.state c.write_through.new.disk) (IsTorn (g.D.Disk.state c.clear.new.disk) c.args.file 0 (length c.closed_slots.result)) c.write_through.ensures.run) in
    any_joined c.args.file (g.D.Disk.state c.args.disk.now) (g.D.Disk.state c.write_through.new.disk) (g.D.Disk.state c.write_through-2.new.disk) first
    (any_run c.args.file (g.D.Disk.state c.write_through.new.disk) (g.D.Disk.state c.write_through-2.new.disk) (IsTorn (g.D.Disk.state c.write_through.new.disk) c.args.file 0 1) c.write_through-2.ensures.run)

pub returns-clause-any_moment : goal.returns-clause-any_moment
returns-clause-any_moment g c =
    let first = any_joined c.args.file (g.D.Disk.state c.args.disk.now) (g.D.Disk.state c.clear.new.disk) (g.D.Disk.state c.write_through.new.disk) c.clear.ensures.run
    (any_run c.args.file (g.D.Disk.state c.clear.new.disk) (g.D.Disk.state c.write_through.new.disk) (IsTorn (g.D.Disk.state c.clear.new.disk) c.args.file 0 (length c.closed_slots.result)) c.write_through.ensures.run) in
    any_joined c.args.file (g.D.Disk.state c.args.disk.now) (g.D.Disk.state c.write_through.new.disk) (g.D.Disk.state c.write_through-2.new.disk) first
    (any_run c.args.file (g.D.Disk.state c.write_through.new.disk) (g.D.Disk.state c.write_through-2.new.disk) (IsTorn (g.D.Disk.state c.write_through.new.disk) c.args.file 0 1) c.write_through-2.ensures.run)

pub returns-clause-kept : goal.returns-clause-kept
returns-clause-kept g c =
    let len : length c.args.body.now ≡ 48 = search rules in
    format_done c.args.file c.args.body.now (put (put (replicate 56 0) 0 (to_le_bytes w64 1)) 8 c.args.body.now) c.closed_slots.result
    (g.D.Disk.state c.clear.new.disk) (g.D.Disk.state c.write_through.new.disk) (g.D.Disk.state c.write_through-2.new.disk)
    c.in_ok-clear.ensures.empty c.in_ok-write_through.ensures.done c.in_ok-write_through-2.ensures.done c.closed_slots.ensures (attempt_bytes_hold 1 c.args.body.now len)

pub returns-clause-now : goal.returns-clause-now
returns-clause-now g c = λ file left.
    let len : length c.args.body.now ≡ 48 = search rules in
    let fits = format_done c.args.file c.args.body.now (put (put (replicate 56 0) 0 (to_le_bytes w64 1)) 8 c.args.body.now) c.closed_slots.result
    (g.D.Disk.state c.clear.new.disk) (g.D.Disk.state c.write_through.new.disk) (g.D.Disk.state c.write_through-2.new.disk)
    c.in_ok-clear.ensures.empty c.in_ok-write_through.ensures.done c.in_ok-write_through-2.ensures.done c.closed_slots.ensures (attempt_bytes_hold 1 c.args.body.now len) file left in
    elim (shown First 1 c.args.body.now Closed file fits) [ inl shows ↦ shows | inr none ↦ absurd none ]

pub returns-clause-left : goal.returns-clause-left
returns-clause-left g c =
    let len : length c.args.body.now ≡ 48 = search rules in
    let bytes = put (put (replicate 56 0) 0 (to_le_bytes w64 1)) 8 c.args.body.now in
    format_leaves c.args.file c.args.body.now bytes c.closed_slots.result
    (g.D.Disk.state c.clear.new.disk) (g.D.Disk.state c.write_through.new.disk) (g.D.Disk.state c.write_through-2.new.disk)
    c.in_ok-clear.ensures.empty c.in_ok-write_through.ensures.done c.in_ok-write_through-2.ensures.done c.closed_slots.ensures len (attempt_bytes_hold 1 c.args.body.now len).len refl

pub returns-clause-seen : goal.returns-clause-seen
returns-clause-seen g c = λ told.
    let len : length c.args.body.now ≡ 48 = search rules in
    let bytes = put (put (replicate 56 0) 0 (to_le_bytes w64 1)) 8 c.args.body.now in
    format_leaves c.args.file c.args.body.now bytes c.closed_slots.result
    (g.D.Disk.state c.clear.new.disk) (g.D.Disk.state c.write_through.new.disk) (g.D.Disk.state c.write_through-2.new.disk)
    c.in_ok-clear.ensures.empty c.in_ok-write_through.ensures.done c.in_ok-write_through-2.ensures.done c.closed_slots.ensures len (attempt_bytes_hold 1 c.args.body.now len).len refl
    ((g.D.Disk.state c.write_through-2.new.disk).seen c.args.file) (g.met.D.Disk.seen_may_stay c.write_through-2.new.disk c.args.file told)
