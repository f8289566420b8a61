use Rattle.std.proofs.Common.{◌∷◌, [], ap, sym}
use Rattle.control_session.specs.declared.line.Line.TheVariants.{NoLayer, Quit, Other}
use Rattle.control_session.specs.Controls.{front, past}
use Rattle.control_session.proofs.Answered.{asked_none}
use Rattle.control_session.proofs.answering.answer_to.Goals as goal

pub returns-in-NoLayer : goal.returns-in-NoLayer
returns-in-NoLayer g c =
    rw c.in-NoLayer.is (asked_none NoLayer (g.C.ControlPort.state c.args.port.now) c.fixed.result.bytes
    (λ go closed bytes others. ap (λ t. front (t ∷ []) [] (past go NoLayer closed bytes others)) (sym c.fixed.ensures)))

pub returns-in-Quit : goal.returns-in-Quit
returns-in-Quit g c =
    rw c.in-Quit.is (asked_none Quit (g.C.ControlPort.state c.args.port.now) c.fixed-in-Quit.result.bytes
    (λ go closed bytes others. ap (λ t. front (t ∷ []) [] (past go Quit closed bytes others)) (sym c.fixed-in-Quit.ensures)))

pub returns-in-Other : goal.returns-in-Other
returns-in-Other g c =
    rw c.in-Other.is (asked_none Other (g.C.ControlPort.state c.args.port.now) c.fixed-in-Other.result.bytes
    (λ go closed bytes others. ap (λ t. front (t ∷ []) [] (past go Other closed bytes others)) (sym c.fixed-in-Other.ensures)))
