use Rattle.std.proofs.Common.{true}
use Rattle.block_disk.specs.MemDisk.{mem_state}
use Rattle.layer_commit.proofs.SealLaws.{fitted_spared}
use Rattle.layer_tests.proofs.layer_commit_tests.name_call.Goals as goal

pub returns-then-stops : goal.returns-then-stops
returns-then-stops c =
    record { fits = fitted_spared true (mem_state c.args.disk.now) (mem_state c.stop.new.self) c.args.sealing.now c.stop.ensures.same.state c.requires.fits }

pub returns : goal.returns
returns c =
    record { fits = fitted_spared true (mem_state c.args.disk.now) (mem_state c.fail.new.self) c.args.sealing.now c.fail.ensures.same.state c.requires.fits }
