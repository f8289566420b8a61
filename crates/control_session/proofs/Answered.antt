-- A line that was answered.
use Rattle.std.proofs.Common.{◌≡◌, ℕ, Bool, List, [], ◌∷◌, refl, sym, ap}
use Rattle.flat_image.specs.Ports.{PortState}
use Rattle.control_session.specs.declared.line.Call.{Call}
use Rattle.control_session.specs.declared.line.Line.{Line}
use Rattle.control_session.specs.declared.line.Line.TheVariants.{Asks}
use Rattle.control_session.specs.Controls.{Answer, Rest, reply_of, front, answered, past}
use Rattle.control_session.specs.Sessions.{Does, Answers}

-- the port was asked
pub asked_one : (call : Call) (answer : Answer) (p q : PortState) (text : List ℕ) → Does p q call answer → text ≡ reply_of call answer → Answers (Asks call) p q text
asked_one call answer p q text does is = record {
  asked = call ∷ [];
  answers = answer ∷ [];
  fits = (q, does, refl);
  goes = λ go closed bytes others. ap (λ t. front (t ∷ []) (call ∷ []) (go closed bytes others)) (sym is);
}

-- the port was not asked
pub asked_none : (line : Line) (p : PortState) (text : List ℕ)
    → ((go : Rest) (closed : Bool) (bytes : List ℕ) (others : List Answer) → answered go line closed bytes others ≡ front (text ∷ []) [] (past go line closed bytes others))
    → Answers line p p text
asked_none line p text goes = record { asked = []; answers = []; fits = refl; goes = goes }
