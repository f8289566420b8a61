use Rattle.std.proofs.Common.{◌≡◌, ℕ, ◌+◌, ◌^◌, ◌<◌, ◌≤◌, List, [], length, refl, sym, ap, ◌∙◌, subst, arith}
use Rattle.std.specs.Prelude.{slice_index_or}
use Rattle.block_disk.proofs.Moments.{quiet_call}
use Rattle.flat_image.specs.History.{now}
use Rattle.image_core.specs.Numbers.{sealed_file}
use Rattle.image_core.specs.Seen.{seen}
use Rattle.image_core.proofs.SheetsRead.{layers-length}
use Rattle.image_core.proofs.StandFacts.{image-few}
use Rattle.image_core.proofs.StepGoes.{reads-refused}
use Rattle.image_core.proofs.image.Image.sealed_length.Goals as goal

pub sealed_number-requires : goal.sealed_number-requires
sealed_number-requires g c = omega (arith, c.requires.epoch, image-few (seen g.D.Disk c.args.self.now) c.requires.standing)

pub returns-in-Ok-clause-quiet : goal.returns-in-Ok-clause-quiet
returns-in-Ok-clause-quiet g c = quiet_call c.sealed_number.result (g.D.Disk.state c.args.self.now.disk) (g.D.Disk.state c.size.new.self) (λ files left. g.met.D.Disk.now_at c.args.self.now.disk files left) c.size.ensures.steps

pub returns-in-Err-clause-quiet : goal.returns-in-Err-clause-quiet
returns-in-Err-clause-quiet g c = quiet_call c.sealed_number.result (g.D.Disk.state c.args.self.now.disk) (g.D.Disk.state c.size.new.self) (λ files left. g.met.D.Disk.now_at c.args.self.now.disk files left) c.size.ensures.steps

pub returns-in-Ok-clause-stands : goal.returns-in-Ok-clause-stands
returns-in-Ok-clause-stands g c base history k =
    (reads-refused g.D.Disk c.args.self.now c.size.new.self (λ files left. g.met.D.Disk.now_at c.args.self.now.disk files left) (λ files leaves. g.met.D.Disk.at_now c.args.self.now.disk files leaves)
    (quiet_call c.sealed_number.result (g.D.Disk.state c.args.self.now.disk) (g.D.Disk.state c.size.new.self) (λ files left. g.met.D.Disk.now_at c.args.self.now.disk files left) c.size.ensures.steps) c.size.ensures.cause.later).stands base history 0 k

pub returns-in-Err-clause-stands : goal.returns-in-Err-clause-stands
returns-in-Err-clause-stands g c base history k =
    (reads-refused g.D.Disk c.args.self.now c.size.new.self (λ files left. g.met.D.Disk.now_at c.args.self.now.disk files left) (λ files leaves. g.met.D.Disk.at_now c.args.self.now.disk files leaves)
    (quiet_call c.sealed_number.result (g.D.Disk.state c.args.self.now.disk) (g.D.Disk.state c.size.new.self) (λ files left. g.met.D.Disk.now_at c.args.self.now.disk files left) c.size.ensures.steps) c.size.ensures.cause.later).stands base history 0 k

pub returns-in-Ok-clause-length : goal.returns-in-Ok-clause-length
returns-in-Ok-clause-length g c told base history k =
    let done : List (List ℕ) = (now base history).done in
    c.in-Ok.ensures.size told
    ∙ ap (length {A = ℕ}) (ap (g.D.Disk.state c.args.self.now.disk).seen c.sealed_number.ensures
    ∙ (k.fits.stack.sealed c.args.epoch (omega (arith, c.requires.epoch, layers-length done c.args.self.now.parts.stack.committed.items k.fits.stack.committed))).seen told)
