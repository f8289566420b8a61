use Rattle.std.proofs.Common.{refl, map, string_bytes, subst}
use Rattle.std.specs.Prelude.{Option, Result, IfErr}
use Rattle.tool_setup.specs.declared.command.Command.{Command}
use Rattle.layer_commands.specs.Ports.{Ports, ports_of}
use Rattle.image_commands.specs.declared.refusal.ImageRefusal.{ImageRefusal}
use Rattle.image_commands.specs.Images.{DiskPort, disk_port}
use Rattle.tool_run.specs.Runs.{WordsFail, asked}
use Rattle.tool_run.proofs.Tools.{charged-by, complete_done, complete-refused, clear-run, usage-only}
use Rattle.tool_run.proofs.tool.run_tool.Goals as goal

pub returns-in-Ok-clause-complete : goal.returns-in-Ok-clause-complete
returns-in-Ok-clause-complete g c =
    let before : Ports = ports_of g.A.Source g.B.Sink g.S.Shelf c.args.source.now c.args.out.now c.args.shelf.now in
    let now : Ports = ports_of g.A.Source g.B.Sink g.S.Shelf c.run_words-answer.new.source c.run_words-answer.new.out c.run_words-answer.new.shelf in
    let disk : DiskPort = disk_port g.D.Disk c.args.disk in
    let disk_now : DiskPort = disk_port g.D.Disk c.run_words-answer.result.1 in
    let command : Option Command = asked (map string_bytes c.args.words.now) in
    complete_done command before now 0 refl

pub returns-in-Err-clause-usage : goal.returns-in-Err-clause-usage
returns-in-Err-clause-usage g c =
    let before : Ports = ports_of g.A.Source g.B.Sink g.S.Shelf c.args.source.now c.args.out.now c.args.shelf.now in
    let now : Ports = ports_of g.A.Source g.B.Sink g.S.Shelf c.run_words-answer.new.source c.run_words-answer.new.out c.run_words-answer.new.shelf in
    let disk : DiskPort = disk_port g.D.Disk c.args.disk in
    let disk_now : DiskPort = disk_port g.D.Disk c.run_words-answer.result.1 in
    let command : Option Command = asked (map string_bytes c.args.words.now) in
    let cause : WordsFail command before now disk disk_now c.in-Err.refusal =
    subst (λ (r : Result (Unit {0}) ImageRefusal). IfErr r (WordsFail command before now disk disk_now)) c.in-Err.is c.run_words-answer.ensures.refused in
    (usage-only command before now disk disk_now c.in-Err.refusal cause c.code.result c.code.ensures).0

pub returns-in-Err-clause-no_command : goal.returns-in-Err-clause-no_command
returns-in-Err-clause-no_command g c =
    let before : Ports = ports_of g.A.Source g.B.Sink g.S.Shelf c.args.source.now c.args.out.now c.args.shelf.now in
    let now : Ports = ports_of g.A.Source g.B.Sink g.S.Shelf c.run_words-answer.new.source c.run_words-answer.new.out c.run_words-answer.new.shelf in
    let disk : DiskPort = disk_port g.D.Disk c.args.disk in
    let disk_now : DiskPort = disk_port g.D.Disk c.run_words-answer.result.1 in
    let command : Option Command = asked (map string_bytes c.args.words.now) in
    let cause : WordsFail command before now disk disk_now c.in-Err.refusal =
    subst (λ (r : Result (Unit {0}) ImageRefusal). IfErr r (WordsFail command before now disk disk_now)) c.in-Err.is c.run_words-answer.ensures.refused in
    (usage-only command before now disk disk_now c.in-Err.refusal cause c.code.result c.code.ensures).1

pub returns-in-Err-clause-complete : goal.returns-in-Err-clause-complete
returns-in-Err-clause-complete g c =
    let before : Ports = ports_of g.A.Source g.B.Sink g.S.Shelf c.args.source.now c.args.out.now c.args.shelf.now in
    let now : Ports = ports_of g.A.Source g.B.Sink g.S.Shelf c.run_words-answer.new.source c.run_words-answer.new.out c.run_words-answer.new.shelf in
    let disk : DiskPort = disk_port g.D.Disk c.args.disk in
    let disk_now : DiskPort = disk_port g.D.Disk c.run_words-answer.result.1 in
    let command : Option Command = asked (map string_bytes c.args.words.now) in
    let cause : WordsFail command before now disk disk_now c.in-Err.refusal =
    subst (λ (r : Result (Unit {0}) ImageRefusal). IfErr r (WordsFail command before now disk disk_now)) c.in-Err.is c.run_words-answer.ensures.refused in
    complete-refused command before now disk disk_now c.in-Err.refusal c.code.result (g.met.S.Shelf.counted c.args.shelf.now) cause
    (charged-by before now c.run_words-answer.result.0 c.in-Err.refusal c.in-Err.is c.run_words-answer.ensures.charged.ports) c.code.ensures

pub returns-in-Err-clause-complete_image : goal.returns-in-Err-clause-complete_image
returns-in-Err-clause-complete_image g c =
    let before : Ports = ports_of g.A.Source g.B.Sink g.S.Shelf c.args.source.now c.args.out.now c.args.shelf.now in
    let now : Ports = ports_of g.A.Source g.B.Sink g.S.Shelf c.run_words-answer.new.source c.run_words-answer.new.out c.run_words-answer.new.shelf in
    let disk : DiskPort = disk_port g.D.Disk c.args.disk in
    let disk_now : DiskPort = disk_port g.D.Disk c.run_words-answer.result.1 in
    let command : Option Command = asked (map string_bytes c.args.words.now) in
    let cause : WordsFail command before now disk disk_now c.in-Err.refusal =
    subst (λ (r : Result (Unit {0}) ImageRefusal). IfErr r (WordsFail command before now disk disk_now)) c.in-Err.is c.run_words-answer.ensures.refused in
    clear-run command before now disk disk_now c.in-Err.refusal c.code.result (g.met.S.Shelf.counted c.args.shelf.now) cause c.code.ensures
