use Rattle.std.proofs.Common.{◌∙◌, sym}
use Rattle.lane_export.proofs.cached_lanes.export_cached.Goals as goal

pub export_with-requires-clause-files : goal.export_with-requires-clause-files
export_with-requires-clause-files g c κs within = c.requires.same

pub export_with-requires-clause-shelves : goal.export_with-requires-clause-shelves
export_with-requires-clause-shelves g c κs within = λ k d lt.
    let s = c.requires.same k d lt in (s.0 ∙ c.requires.control_count, (λ x is. c.requires.control_told x (sym s.1 ∙ is)))

pub returns-in-Ok-clause-files : goal.returns-in-Ok-clause-files
returns-in-Ok-clause-files g c = λ k d lt.
    let pair = c.export_with.ensures.files k d lt in
    let control = c.export_with.ensures.control_files in
    (pair.0 ∙ sym control.0, pair.1 ∙ sym control.1)
