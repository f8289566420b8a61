use Rattle.std.proofs.Common.{◌≡◌, ℕ, ◌+◌, ◌*◌, ◌^◌, ◌<◌, ◌≤◌, List, [], length, take, drop, refl, sym, ap, ◌∙◌, subst, arith}
use Rattle.std.specs.Prelude.{slice_index_or}
use Rattle.block_disk.proofs.Moments.{quiet_call}
use Rattle.flat_image.specs.History.{now}
use Rattle.image_core.specs.Numbers.{sealed_file}
use Rattle.image_core.specs.Seen.{seen}
use Rattle.image_core.proofs.SheetsRead.{layers-length}
use Rattle.image_core.proofs.StandFacts.{image-few}
use Rattle.image_core.proofs.StepGoes.{reads-failed, reads-refused}
use Rattle.image_core.proofs.image.Image.peek.Goals as goal

pub sealed_number-requires : goal.sealed_number-requires
sealed_number-requires g c = omega (arith, c.requires.epoch, image-few (seen g.D.Disk c.args.self.now) c.requires.standing)

pub returns-in-Ok-clause-quiet : goal.returns-in-Ok-clause-quiet
returns-in-Ok-clause-quiet g c = quiet_call c.sealed_number.result (g.D.Disk.state c.args.self.now.disk) (g.D.Disk.state c.read_at.new.self) (λ files left. g.met.D.Disk.now_at c.args.self.now.disk files left) c.read_at.ensures.steps

pub returns-in-Err-clause-quiet : goal.returns-in-Err-clause-quiet
returns-in-Err-clause-quiet g c = quiet_call c.sealed_number.result (g.D.Disk.state c.args.self.now.disk) (g.D.Disk.state c.read_at.new.self) (λ files left. g.met.D.Disk.now_at c.args.self.now.disk files left) c.read_at.ensures.steps

pub returns-in-Ok-clause-goes : goal.returns-in-Ok-clause-goes
returns-in-Ok-clause-goes g c =
    reads-refused g.D.Disk c.args.self.now c.read_at.new.self (λ files left. g.met.D.Disk.now_at c.args.self.now.disk files left) (λ files leaves. g.met.D.Disk.at_now c.args.self.now.disk files leaves)
    (quiet_call c.sealed_number.result (g.D.Disk.state c.args.self.now.disk) (g.D.Disk.state c.read_at.new.self) (λ files left. g.met.D.Disk.now_at c.args.self.now.disk files left) c.read_at.ensures.steps) c.read_at.ensures.cause.later

pub returns-in-Ok-clause-bytes : goal.returns-in-Ok-clause-bytes
returns-in-Ok-clause-bytes g c told base history k =
    let done : List (List ℕ) = (now base history).done in
    let file : (g.D.Disk.state c.args.self.now.disk).seen c.sealed_number.result ≡ slice_index_or done c.args.epoch [] =
    ap (g.D.Disk.state c.args.self.now.disk).seen c.sealed_number.ensures
    ∙ (k.fits.stack.sealed c.args.epoch (omega (arith, c.requires.epoch, layers-length done c.args.self.now.parts.stack.committed.items k.fits.stack.committed))).seen told in
    c.in-Ok.ensures.bytes told ∙ (λ i. take (c.read_at.auto.out i) (drop (512 * c.args.place) (file i)))

pub returns-in-Err-clause-goes : goal.returns-in-Err-clause-goes
returns-in-Err-clause-goes g c =
    reads-failed g.D.Disk c.args.self.now c.read_at.new.self (λ files left. g.met.D.Disk.now_at c.args.self.now.disk files left) (λ files leaves. g.met.D.Disk.at_now c.args.self.now.disk files leaves)
    (quiet_call c.sealed_number.result (g.D.Disk.state c.args.self.now.disk) (g.D.Disk.state c.read_at.new.self) (λ files left. g.met.D.Disk.now_at c.args.self.now.disk files left) c.read_at.ensures.steps) c.read_at.ensures.cause.later (c.in-Err.ensures.cause.failed refl)
