use Rattle.std.proofs.Common.{subst, ◌∙◌, rules}
use Rattle.std.specs.Io.KnownBytes.{Appends}
use Rattle.byte_ports.specs.Ports.{AppendsFront}
use Rattle.std.proofs.lemmas.Result.{err_from_is_err_and}
use Rattle.control_session.proofs.Served.{stopped, was_taken, unsent, quits, ends_there, goes_on}
use Rattle.control_session.proofs.session.serve_line.Goals as goal

pub returns-in_err-found : goal.returns-in_err-found
returns-in_err-found g c = λ go idle.
    let A = g.A.Source in
    let B = g.B.Sink in
    let q = err_from_is_err_and c.from_residual.result c.from_residual.ensures.1 in
    rw (q.1, q.2) (stopped go idle (A.left c.args.source.now) (A.left c.read_line.new.source) (A.faults c.args.source.now) (A.faults c.read_line.new.source)
    (B.written c.args.sink.now) (B.faults c.args.sink.now) (g.C.ControlPort.state c.args.port.now) c.in_err-found.field-0.0 c.in_err-found.ensures)

pub returns-in_err-send : goal.returns-in_err-send
returns-in_err-send g c = λ go idle.
    let A = g.A.Source in
    let B = g.B.Sink in
    let C = g.C.ControlPort in
    let q = err_from_is_err_and c.from_residual-in_err-send.result c.from_residual-in_err-send.ensures.1 in
    let e = c.in_err-send.ensures in
    let t = was_taken go (A.left c.args.source.now) (A.left c.read_line.new.source) c.read_line.new.line c.in_ok-found.found c.line_said-line.result idle (search rules) c.in_ok-found.ensures.0 c.line_said-line.ensures.said in
    let sent = c.as_bytes.ensures.value ∙ c.as_str.ensures.value in
    rw (q.1, q.2, e.0) (unsent go (A.left c.args.source.now) (A.left c.read_line.new.source) (A.faults c.args.source.now) (A.faults c.read_line.new.source)
    (B.written c.args.sink.now) (B.written c.send.new.sink) (B.faults c.args.sink.now) (B.faults c.send.new.sink) (C.state c.args.port.now) (C.state c.answer_to-text.new.port)
    c.line_said-line.result c.answer_to-text.result.bytes c.in_ok-found.found.last t c.answer_to-text.ensures
    (subst (AppendsFront (B.written c.args.sink.now) (B.written c.send.new.sink)) sent e.1) c.in_ok-found.ensures.1 e.2)

pub returns-then-is_quit : goal.returns-then-is_quit
returns-then-is_quit g c = λ go idle.
    let A = g.A.Source in
    let B = g.B.Sink in
    let C = g.C.ControlPort in
    let t = was_taken go (A.left c.args.source.now) (A.left c.read_line.new.source) c.read_line.new.line c.in_ok-found.found c.line_said-line.result idle (search rules) c.in_ok-found.ensures.0 c.line_said-line.ensures.said in
    let sent = c.as_bytes.ensures.value ∙ c.as_str.ensures.value in
    quits go (A.left c.args.source.now) (A.left c.read_line.new.source) (A.faults c.args.source.now) (A.faults c.read_line.new.source)
    (B.written c.args.sink.now) (B.written c.send.new.sink) (B.faults c.args.sink.now) (B.faults c.send.new.sink) (C.state c.args.port.now) (C.state c.answer_to-text.new.port)
    c.line_said-line.result c.answer_to-text.result.bytes c.in_ok-found.found.last t c.answer_to-text.ensures (c.is_quit.ensures.yes c.if-is_quit.true)
    (subst (Appends (B.written c.args.sink.now) (B.written c.send.new.sink)) sent c.in_ok-send.ensures.0) c.in_ok-found.ensures.1 c.in_ok-send.ensures.1

pub returns-then-found : goal.returns-then-found
returns-then-found g c = λ go idle.
    let A = g.A.Source in
    let B = g.B.Sink in
    let C = g.C.ControlPort in
    let t = was_taken go (A.left c.args.source.now) (A.left c.read_line.new.source) c.read_line.new.line c.in_ok-found.found c.line_said-line.result idle (search rules) c.in_ok-found.ensures.0 c.line_said-line.ensures.said in
    let sent = c.as_bytes.ensures.value ∙ c.as_str.ensures.value in
    ends_there go (A.left c.args.source.now) (A.left c.read_line.new.source) (A.faults c.args.source.now) (A.faults c.read_line.new.source)
    (B.written c.args.sink.now) (B.written c.send.new.sink) (B.faults c.args.sink.now) (B.faults c.send.new.sink) (C.state c.args.port.now) (C.state c.answer_to-text.new.port)
    c.line_said-line.result c.answer_to-text.result.bytes c.in_ok-found.found.last t c.answer_to-text.ensures (c.is_quit.ensures.no c.if-is_quit.false) c.if-found.true
    (subst (Appends (B.written c.args.sink.now) (B.written c.send.new.sink)) sent c.in_ok-send.ensures.0) c.in_ok-found.ensures.1 c.in_ok-send.ensures.1

pub returns : goal.returns
returns g c = λ go idle.
    let A = g.A.Source in
    let B = g.B.Sink in
    let C = g.C.ControlPort in
    let sent = c.as_bytes.ensures.value ∙ c.as_str.ensures.value in
    goes_on go (A.left c.args.source.now) (A.left c.read_line.new.source) (A.faults c.args.source.now) (A.faults c.read_line.new.source)
    (B.written c.args.sink.now) (B.written c.send.new.sink) (B.faults c.args.sink.now) (B.faults c.send.new.sink) (C.state c.args.port.now) (C.state c.answer_to-text.new.port)
    c.line_said-line.result c.answer_to-text.result.bytes c.read_line.new.line c.in_ok-found.found (search rules) c.in_ok-found.ensures.0 c.if-found.false c.line_said-line.ensures.said
    c.answer_to-text.ensures (c.is_quit.ensures.no c.if-is_quit.false)
    (subst (Appends (B.written c.args.sink.now) (B.written c.send.new.sink)) sent c.in_ok-send.ensures.0) c.in_ok-found.ensures.1 c.in_ok-send.ensures.1
