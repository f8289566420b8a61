use Rattle.std.proofs.Common.{subst}
use Rattle.gate_mark.specs.Mark.{LoadGives}
use Rattle.gate_mark.proofs.Front.{front_gives, load_kept}
use Rattle.gate_mark.proofs.mark.Mark.load.Goals as goal

pub returns-then-is_long-clause-gives : goal.returns-then-is_long-clause-gives
returns-then-is_long-clause-gives g c = λ told.
    front_gives ((g.D.Disk.state c.args.disk.now).seen c.args.file) ((c.in-Ok.ensures.long told).0 c.if-is_long.true) c.read.result
    (subst (λ slots. LoadGives slots c.read.result) (c.in-Ok.ensures.bytes told c.if-is_long.true) c.read.ensures.gives)

pub returns-then-is_long-clause-kept : goal.returns-then-is_long-clause-kept
returns-then-is_long-clause-kept g c =
    load_kept c.read.result c.args.file c.read_both.new.out ((g.D.Disk.state c.args.disk.now).seen c.args.file) (g.D.Disk.state c.read_both.new.disk) c.read.ensures.fits c.read.ensures.file
    (λ f left. let told = g.met.D.Disk.told c.read_both.new.disk c.args.file f left in
    ((c.in-Ok.ensures.long told).0 c.if-is_long.true, c.in-Ok.ensures.bytes told c.if-is_long.true, c.in-Ok.ensures.durable f left))
