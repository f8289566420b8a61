-- A grow of an image, and the line that tells of it.
use Rattle.std.proofs.Common.{◌≡◌, ℕ, ◌<◌, ◌≤◌, Bool, IsTrue, List, [], ◌∷◌, refl, sym, ap, ◌∙◌, subst, arith, inr}
use Rattle.std.specs.Prelude.{Option, Result, Ok, Err, OnOk, OnErr, IfErr}
use Rattle.std.specs.Result.{IsErrOf}
use Rattle.std.specs.Io.KnownBytes.{Appends}
use Rattle.std.proofs.KnownBytes.{Keeps-refl}
use Rattle.byte_ports.specs.Ports.{AppendsFront}
use Rattle.byte_ports.proofs.Chains.{AppendsFront-none}
use Rattle.block_disk.specs.DiskState.{DiskState, Leaves}
use Rattle.block_disk.specs.Claims.{Quiet}
use Rattle.top_writer.proofs.QuietLaws.{quiet_joined}
use Rattle.flat_image.specs.declared.act.Act.TheVariants.{Grow, Fault}
use Rattle.flat_image.specs.declared.act.Asked.TheVariants.{Sectors}
use Rattle.flat_image.specs.declared.base.Base.{Base}
use Rattle.image_core.specs.declared.growing.GrowFault.{GrowFault}
use Rattle.image_core.specs.declared.growing.GrowFault.TheVariants.{Busy, NotLarger, Failed}
use Rattle.image_core.specs.declared.parts.Parts.{Parts}
use Rattle.image_core.specs.Growing.{noted_grow, pending_in, IsRefusedGrow}
use Rattle.image_core.specs.Parts.{parts_view}
use Rattle.image_core.specs.Seen.{Seen, StandsFor, Goes}
use Rattle.tool_setup.specs.declared.command.Command.TheVariants as command
use Rattle.layer_commands.specs.declared.refusal.Refusal.{Refusal}
use Rattle.layer_commands.specs.declared.refusal.Refusal.TheVariants as refused
use Rattle.layer_commands.specs.Ports.{Ports}
use Rattle.image_commands.specs.ImageReports.{grown_line}
use Rattle.image_commands.specs.Images.{DiskPort, Opens, Does, entries}
use Rattle.image_commands.specs.ImageCauses.{ImageCause}
use Rattle.image_commands.specs.ImageSteps.{port_of, Adds, fault_of, GrowCause, GrowTold, grow_refused_as}
use Rattle.image_commands.proofs.Answered.{ok-both}
use Rattle.image_commands.proofs.WithoutReads.{shows-grown}
use Rattle.image_commands.proofs.ImageAdds.{adds-none, adds-act}
use Rattle.image_commands.proofs.ImageLaws.{pending-is, size-is}
use Rattle.image_commands.proofs.TellLaws.{acts-do, acts-began, none-begun, all-begun, fault-begun}

abbrev refuses : GrowFault → Result (Unit {0}) GrowFault
refuses why = Err why

-- the image did not grow
pub grow-refused : (tells : Bool) (s s' : DiskState) (f f' : ℕ) (p p' : Parts) (sectors : ℕ) (why : GrowFault)
    → Goes (record { tells = tells; state = s; faults = f; parts = p }) (record { tells = tells; state = s'; faults = f'; parts = p' }) (noted_grow sectors (refuses why))
    → IsRefusedGrow (pending_in (parts_view p)) (parts_view p).sectors sectors (refuses why)
    → Quiet s s → ((IsErrOf (refuses why) Failed → ⊥) → s' ≡ s) → (IsErrOf (refuses why) Failed → f < f')
    → GrowCause sectors (record { tells = tells; state = s; faults = f; parts = p }) (record { tells = tells; state = s'; faults = f'; parts = p' }) (grow_refused_as why)
grow-refused tells s s' f f' p p' sectors (Busy uuid) goes is quiet same rose =
    ((is.busy uuid).1 refl, record { adds = adds-none tells s s' f f' p p' goes; same = subst (λ (t : DiskState). Quiet s t) (sym (same (λ e. cc))) quiet })
grow-refused tells s s' f f' p p' sectors (NotLarger n) goes is quiet same rose =
    let own : n ≡ (parts_view p).sectors = is.only n refl in
    let known = is.larger.1 (ap (λ (m : ℕ). refuses (NotLarger m)) own) in
    (known.0, own, (let within = known.1 in omega (arith, own, within)), record { adds = adds-none tells s s' f f' p p' goes; same = subst (λ (t : DiskState). Quiet s t) (sym (same (λ e. cc))) quiet })
grow-refused tells s s' f f' p p' sectors Failed goes is quiet same rose =
    (rose refl, adds-act tells s s' f f' p p' (Fault (Sectors sectors)) refl goes)

-- the grow was refused, and nothing was written
pub tell-refused : (sectors : ℕ) (line : List ℕ) (old new : Seen) (sink : ℕ) (written : Option (List ℕ)) (refusal : Refusal) → GrowCause sectors old new refusal
    → GrowTold sectors line old new sink sink written written refusal
tell-refused sectors line old new sink written refused.DiskFault cause = (cause, Keeps-refl written)
tell-refused sectors line old new sink written (refused.Busy uuid) cause = (cause, Keeps-refl written)
tell-refused sectors line old new sink written (refused.NotLarger n) cause = (cause, Keeps-refl written)
tell-refused sectors line old new sink written other cause = absurd cause

-- the line was not written whole
pub tell-cut : {T : Type 0} (r : Result T Refusal) (sectors : ℕ) (line : List ℕ) (old new : Seen) (sink sink_now : ℕ) (written written_now : Option (List ℕ)) → Adds (entries (Grow sectors ∷ [])) old new
    → IfErr r (λ refusal. refusal ≡ refused.SinkFault) → (IsErrOf r refused.SinkFault → sink < sink_now) → OnErr r (AppendsFront written written_now line)
    → IfErr r (GrowTold sectors line old new sink sink_now written written_now)
tell-cut (Ok value) sectors line old new sink sink_now written written_now adds is rose front = tt
tell-cut (Err refusal) sectors line old new sink sink_now written written_now adds is rose front =
    subst (λ (x : Refusal). GrowTold sectors line old new sink sink_now written written_now x) (sym is) (rose (ap Err is), adds, front)

-- what it comes to for the command
module _ (sectors : ℕ) (before now : Ports) (disk : DiskPort) (old new : Seen) (base : Base)
    (opens : Opens (command.Grow sectors) before disk [] base) (stands : StandsFor old base []) where
  pub grow-done : (r : Result (Unit {0}) Refusal) → (IsTrue new.tells → Leaves new.state new.state.seen) → OnOk r (Adds (entries (Grow sectors ∷ [])) old new)
      → OnOk r (Appends before.written now.written (grown_line sectors)) → OnOk r (Does (command.Grow sectors) before now disk (port_of new))
  grow-done r stay adds written =
      ok-both r (Adds (entries (Grow sectors ∷ [])) old new) (Appends before.written now.written (grown_line sectors)) (Does (command.Grow sectors) before now disk (port_of new))
      (acts-do (command.Grow sectors) [] (grown_line sectors) (Grow sectors ∷ []) before now disk old new base refl opens (omega arith) stands refl (λ files. shows-grown base sectors files) stay tt) adds written

  refused-cause : (sink : ℕ) → Quiet disk.state old.state → disk.faults ≤ old.faults → before.sink_faults ≤ sink → (refusal : Refusal)
      → GrowTold sectors (grown_line sectors) old new sink now.sink_faults before.written now.written refusal → ImageCause (command.Grow sectors) before now disk (port_of new) refusal
  unfolding acts-began
  refused-cause sink quiet later sink_later refused.Memory (adds, keeps) = (
    tt,
    inr (record {
      opened = λ (asked, is). cc;
      began = acts-began (command.Grow sectors) [] (grown_line sectors) (Grow sectors ∷ []) before now disk old new base refl opens (omega arith) stands refl []
          (none-begun (command.Grow sectors) [] (grown_line sectors) (Grow sectors ∷ []) before now disk old new base refl opens (omega arith) stands refl) adds
          (AppendsFront-none before.written now.written (grown_line sectors) keeps);
      none = refl;
      silent = inr keeps;
    }),
  )
  refused-cause sink quiet later sink_later refused.DiskFault ((failed, adds), keeps) =
      let rose : disk.faults < new.faults = omega (arith, later, failed) in
      record {
        rose = rose;
        fed = ([], opens.takes);
        stacked = opens.over.stacked;
        size = λ asked is. absurd (cc);
        silent = inr keeps;
        stands = inr (inr (
            acts-began (command.Grow sectors) [] (grown_line sectors) (Grow sectors ∷ []) before now disk old new base refl opens (omega arith) stands refl (fault_of (Sectors sectors))
            (fault-begun (command.Grow sectors) [] (grown_line sectors) (Grow sectors ∷ []) before now disk old new base refl opens (omega arith) stands refl (Sectors sectors) refl [] (record { rest = entries (Grow sectors ∷ []); is = refl }) rose) adds
            (AppendsFront-none before.written now.written (grown_line sectors) keeps)));
      }
  refused-cause sink quiet later sink_later (refused.Busy uuid) (cause, keeps) = (
    record { stops = tt; base = base; over = opens.over; found = opens.starts; pending = sym (pending-is old base stands) ∙ cause.0 },
    record { sink = keeps; same = quiet_joined disk.state old.state new.state quiet cause.1.same },
  )
  refused-cause sink quiet later sink_later (refused.NotLarger n) (cause, keeps) =
      let size = size-is old base stands in (
        record {
          wanted = sectors;
          grows = refl;
          base = base;
          opens = opens;
          free = sym (pending-is old base stands) ∙ cause.0;
          is = cause.1 ∙ size;
          within = let own = cause.1 in let within = cause.2 in omega (arith, own, within, size);
        },
        record { sink = keeps; same = quiet_joined disk.state old.state new.state quiet cause.3.same },
      )
  refused-cause sink quiet later sink_later refused.SinkFault (rose, adds, front) = (
    omega (arith, sink_later, rose),
    record {
      began = acts-began (command.Grow sectors) [] (grown_line sectors) (Grow sectors ∷ []) before now disk old new base refl opens (omega arith) stands refl (entries (Grow sectors ∷ []))
          (all-begun (command.Grow sectors) [] (grown_line sectors) (Grow sectors ∷ []) before now disk old new base refl opens (omega arith) stands refl) adds front;
      all = refl;
    },
  )
  refused-cause sink quiet later sink_later other cause = absurd cause

  pub grow-failed : (r : Result (Unit {0}) Refusal) (sink : ℕ) → Quiet disk.state old.state → disk.faults ≤ old.faults → before.sink_faults ≤ sink
      → IfErr r (GrowTold sectors (grown_line sectors) old new sink now.sink_faults before.written now.written) → IfErr r (ImageCause (command.Grow sectors) before now disk (port_of new))
  grow-failed (Ok value) sink quiet later sink_later cause = tt
  grow-failed (Err refusal) sink quiet later sink_later cause = refused-cause sink quiet later sink_later refusal cause
