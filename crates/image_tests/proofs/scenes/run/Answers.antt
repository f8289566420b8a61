use Rattle.image_tests.proofs.scenes.run.Goals as goal

pub returns : goal.returns
returns g c =
    let o = c.requires.over in
    record { over = (o.0, _, o.2, c.run_steps.ensures.stands o.0 o.1 o.3) }
