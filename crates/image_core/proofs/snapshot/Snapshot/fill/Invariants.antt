use Rattle.image_core.proofs.snapshot.Snapshot.fill.Given as goal

abbrev pub ghosts-read_gaps : goal.ghosts-read_gaps
ghosts-read_gaps g a = record { name = a.blank.name; parts = a.blank.parts }
