use Rattle.layer_commands.specs.declared.refusal.Refusal.TheVariants as refused
use Rattle.image_commands.specs.declared.refusal.ImageRefusal.{ImageRefusal}
use Rattle.image_commands.specs.Images.{DiskPort, disk_port}
use Rattle.image_commands.proofs.Answered.{err-told, ok-told, told-charges}
use Rattle.tool_run.specs.Runs.{MakeRefused}
use Rattle.tool_run.proofs.tool.make_image.Goals as goal

pub returns-clause-done : goal.returns-clause-done
returns-clause-done g c = rw c.as_command.ensures (ok-told c.make_drawn-answer.result.0 _ c.make_drawn-answer.ensures.done)

pub returns-clause-refused : goal.returns-clause-refused
returns-clause-refused g c =
    let disk : DiskPort = disk_port g.D.Disk c.args.disk in
    let disk_now : DiskPort = disk_port g.D.Disk c.make_drawn-answer.result.1 in
    let cause : ImageRefusal → Type 0 =
    λ refusal. MakeRefused c.args.seed c.args.acts (g.B.Sink.faults c.args.out.now) (g.B.Sink.faults c.make_drawn-answer.new.out) (g.B.Sink.written c.args.out.now)
    (g.B.Sink.written c.make_drawn-answer.new.out) disk disk_now refusal in
    rw c.as_command.ensures (err-told c.make_drawn-answer.result.0 cause c.make_drawn-answer.ensures.refused)

pub returns-clause-disk_cause : goal.returns-clause-disk_cause
returns-clause-disk_cause g c =
    rw c.as_command.ensures (told-charges g.D.Disk.faults c.args.disk c.make_drawn-answer.result.1 c.make_drawn-answer.result.0 refused.DiskFault c.make_drawn-answer.ensures.disk_cause)

pub returns-clause-sink_cause : goal.returns-clause-sink_cause
returns-clause-sink_cause g c =
    rw c.as_command.ensures (told-charges g.B.Sink.faults c.args.out.now c.make_drawn-answer.new.out c.make_drawn-answer.result.0 refused.SinkFault c.make_drawn-answer.ensures.sink_cause)
