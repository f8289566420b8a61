use Rattle.lane_export.proofs.cached_lanes.export_named.Goals as goal

pub export_image-requires-clause-shelves : goal.export_image-requires-clause-shelves
export_image-requires-clause-shelves g c κs within = rw c.requires.named c.requires.shelves

pub export_image-requires-clause-control_told : goal.export_image-requires-clause-control_told
export_image-requires-clause-control_told g c κs within = rw c.requires.named c.requires.control_told

pub returns-clause-exports : goal.returns-clause-exports
returns-clause-exports g c = rw c.requires.named at c.export_image.ensures.exports
