-- What the parts of a handshake do.
use Rattle.std.specs.Prelude.{◌≡◌, ℕ, ◌<◌, List, Option, Result, MatchResult}
use Rattle.std.specs.Io.KnownBytes.{Appends}
use Rattle.byte_ports.specs.Ports.{AppendsFront}
use Rattle.nbd_session.specs.declared.option_answers.Phase.{Phase}
use Rattle.nbd_session.specs.declared.option_answers.Phase.TheVariants.{Options, Transmission, Aborted, UnknownExport}
use Rattle.nbd_session.specs.declared.served.Served.{Served}
use Rattle.nbd_session.specs.declared.served.Served.TheVariants as served
use Rattle.nbd_session.specs.Options.{Next, More, Start, Stop, OptionAnswer}
use Rattle.nbd_session.specs.Talks.{Rest, goes_on}

-- what comes next in that phase
abbrev pub next_of : Phase → Next
next_of Options = More
next_of Transmission = Start
next_of Aborted = Stop served.Aborted
next_of UnknownExport = Stop served.UnknownExport

-- the rest of the talk in that phase
abbrev pub in_phase : Rest → Rest → Phase → Rest
in_phase more start phase = goes_on more start (next_of phase)

-- what is said to an option was sent, and what comes next is known; or a front of it was sent before the sink failed
abbrev pub Says : OptionAnswer → Option (List ℕ) → Option (List ℕ) → ℕ → ℕ → Result Phase Served → Type 0
Says answer old new before now result = MatchResult result
    (λ phase. (answer.next ≡ next_of phase) × Appends old new answer.said × (now ≡ before))
    (λ end. (end ≡ served.SinkFault) × AppendsFront old new answer.said × (before < now))
