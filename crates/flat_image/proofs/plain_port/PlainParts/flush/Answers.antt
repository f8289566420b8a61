use Rattle.std.proofs.lemmas.Result.{err_from_is_err_and}
use Rattle.flat_image.specs.PlainParts.{view_of}
use Rattle.flat_image.proofs.PlainExits.{flush-worn, flush-ends}
use Rattle.flat_image.proofs.plain_port.PlainParts.flush.Goals as goal

pub returns-in_err-fails : goal.returns-in_err-fails
returns-in_err-fails c =
    let p = err_from_is_err_and c.from_residual.result c.from_residual.ensures.1 in
    let worn = c.in_err-fails.ensures.worn in
    rw (p.1, p.2, worn.0)
    (flush-worn (view_of c.args.self.now) c.begin.new.plan c.requires.plain c.in_err-fails.ensures.counted _ worn.1)

pub returns : goal.returns
returns c =
    let b = c.in_ok-fails.ensures in
    flush-ends (view_of c.args.self.now) c.begin.new.plan c.requires.plain b.counted c.in_ok-fails.fails b.open.0 b.open.1
    c.note.new.entries.items c.note.new.faults.count c.note.result c.note.ensures.noted
