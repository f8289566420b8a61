use Rattle.seg_table.proofs.JoinLaws.{put-joined}
use Rattle.seg_table.proofs.change.put_among.Goals as goal

pub returns-clause-put : goal.returns-clause-put
returns-clause-put g c = put-joined c.args.segment c.args.segments.now c.put_apart-number.new.made c.join_around.new.leaf c.put_apart-number.ensures.put c.join_around.ensures
