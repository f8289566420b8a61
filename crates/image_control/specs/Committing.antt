-- How far a commit has come.
use Rattle.std.specs.Prelude.{◌≡◌, ◌≢◌, ℕ, ◌<◌, ◌⊎◌, List, [], ◌∷◌, Some}
use Rattle.flat_image.specs.declared.act.Act.TheVariants.{Freeze, Seal, Fault}
use Rattle.flat_image.specs.declared.act.Asked.{Asked}
use Rattle.flat_image.specs.Ports.{PortState, IsWorn, Notes}
use Rattle.control_session.specs.declared.answer.CommitAnswer.{CommitAnswer}
use Rattle.control_session.specs.declared.answer.CommitAnswer.TheVariants as commit
use Rattle.control_session.specs.ControlTable.{HasSince, IsAskedFor, pending_in}
use Rattle.shared_image.specs.declared.faults.SharedFreezeFault.{SharedFreezeFault}
use Rattle.shared_image.specs.declared.faults.SharedFreezeFault.TheVariants as freeze

-- the commit with that uuid is in progress: it froze, or was in progress already
abbrev pub Begins : PortState → PortState → List ℕ → Type 0
Begins old new uuid = (pending_in new ≡ Some uuid) × (Notes old new (Freeze uuid ∷ []) ⊎ Notes old new [])

-- the commit that was in progress still is
abbrev pub GoesOn : PortState → PortState → List ℕ → Type 0
GoesOn old new uuid = (pending_in new ≡ Some uuid) × Notes old new []

-- the commit that was in progress came to that end
abbrev pub Ends : PortState → PortState → List ℕ → CommitAnswer → Type 0
Ends old new uuid commit.Done = HasSince old new (Seal uuid) × (Notes old new (Seal uuid ∷ []) ⊎ Notes old new [])
Ends old new uuid (commit.Busy other) = ⊥
Ends old new uuid commit.TooMany = ⊥
Ends old new uuid commit.UuidTwice = ⊥
Ends old new uuid commit.Failed = (old.faults < new.faults) × ((asked : Asked) × IsAskedFor uuid asked × Notes old new (Fault asked ∷ []))
Ends old new uuid commit.Worn = IsWorn new × Notes old new []
Ends old new uuid commit.Memory = ⊥

-- the answer to a commit whose freeze is refused so. That the commit itself is in progress is no refusal
abbrev pub IsAnswerTo : List ℕ → SharedFreezeFault → CommitAnswer → Type 0
IsAnswerTo uuid freeze.Worn answer = answer ≡ commit.Worn
IsAnswerTo uuid (freeze.Busy other) answer = (answer ≡ commit.Busy other) × (other ≢ uuid)
IsAnswerTo uuid freeze.TooMany answer = answer ≡ commit.TooMany
IsAnswerTo uuid freeze.UuidTwice answer = answer ≡ commit.UuidTwice
IsAnswerTo uuid freeze.Memory answer = answer ≡ commit.Memory
IsAnswerTo uuid freeze.Failed answer = answer ≡ commit.Failed
