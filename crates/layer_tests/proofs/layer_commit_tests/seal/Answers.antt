use Rattle.layer_tests.proofs.layer_commit_tests.seal.Goals as goal

pub loop-preserved : goal.loop-preserved
loop-preserved g c = let f = c.loop.invariant in (f.0, c.copy_some.ensures.fits f.0 f.1)

pub returns-in_err-copy_some : goal.returns-in_err-copy_some
returns-in_err-copy_some g c = let f = c.loop.invariant in record { fits = (f.0, c.copy_some.ensures.fits f.0 f.1) }

pub returns : goal.returns
returns g c = let f = c.loop.invariant in record { fits = (f.0, c.complete.ensures.fits f.0 f.1) }
