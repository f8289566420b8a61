-- What a control port's calls note in the history, and when each answer may come.
use Rattle.std.specs.Prelude.{◌≡◌, ◌≢◌, ℕ, ◌+◌, ◌/◌, ◌<◌, ◌≤◌, ◌⊎◌, IsTrue, List, [], ◌∷◌, ◌++◌, length, map, Contains, Option, Some, None, get_or}
use Rattle.flat_image.specs.declared.act.Act.{Act}
use Rattle.flat_image.specs.declared.act.Act.TheVariants.{Freeze, Seal, Fault}
use Rattle.flat_image.specs.declared.act.Asked.{Asked}
use Rattle.flat_image.specs.declared.act.Asked.TheVariants.{Nothing, Uuid}
use Rattle.flat_image.specs.Entries.{entry}
use Rattle.flat_image.specs.History.{History, committed, pending, size}
use Rattle.flat_image.specs.LayerReading.{uuid_in}
use Rattle.flat_image.specs.Ports.{PortState, IsWorn, Notes}
use Rattle.control_session.specs.declared.answer.CommitAnswer.{CommitAnswer}
use Rattle.control_session.specs.declared.answer.CommitAnswer.TheVariants as commit
use Rattle.control_session.specs.declared.answer.WarmAnswer.{WarmAnswer}
use Rattle.control_session.specs.declared.answer.WarmAnswer.TheVariants as warm
use Rattle.control_session.specs.declared.answer.StatusAnswer.{StatusAnswer}
use Rattle.control_session.specs.declared.answer.StatusAnswer.TheVariants as status

-- the lower layers and those committed by now, the lowest first
abbrev pub layers_in : PortState → List (List ℕ)
layers_in port = port.base.lowers ++ committed port.base port.seen

-- the uuid of the commit that is in progress by now
abbrev pub pending_in : PortState → Option (List ℕ)
pending_in port = pending port.base port.seen

-- the act stands in what was seen since
pub record HasSince (old new : PortState) (act : Act) : Type 0 where
  pub before : History
  pub number : ℕ
  pub behind : History
  pub seen : new.seen ≡ (old.seen ++ before) ++ (entry number act ∷ behind)

-- nothing hinders a commit with that uuid to begin
pub record MayFreeze (port : PortState) (uuid : List ℕ) : Type 0 where
  pub going : IsWorn port → ⊥
  pub idle : pending_in port ≡ None
  pub few : length (layers_in port) < 255
  pub unlike : Contains (map uuid_in (layers_in port)) uuid → ⊥

-- what is asked of the disk for this commit: a freeze and a seal are asked for by their uuid
abbrev pub IsAskedFor : List ℕ → Asked → Type 0
IsAskedFor uuid asked = (asked ≡ Nothing) ⊎ (asked ≡ Uuid uuid)

-- a commit. It froze, or went on where it was in progress. It sealed, or found that another caller did. A step that
-- failed is the last that it noted
abbrev pub CommitFits : PortState → PortState → List ℕ → CommitAnswer → Type 0
CommitFits old new uuid commit.Done = HasSince old new (Seal uuid)
    × (Notes old new (Freeze uuid ∷ Seal uuid ∷ []) ⊎ (Notes old new (Seal uuid ∷ []) ⊎ (Notes old new (Freeze uuid ∷ []) ⊎ Notes old new [])))
CommitFits old new uuid (commit.Busy other) = Notes old new [] × (pending_in new ≡ Some other) × (other ≢ uuid)
CommitFits old new uuid commit.TooMany = Notes old new [] × (pending_in new ≡ None) × (length (layers_in new) ≡ 255)
CommitFits old new uuid commit.UuidTwice = Notes old new [] × (pending_in new ≡ None) × Contains (map uuid_in (layers_in new)) uuid
CommitFits old new uuid commit.Failed = (old.faults < new.faults)
    × ((asked : Asked) × IsAskedFor uuid asked × (Notes old new (Fault asked ∷ []) ⊎ Notes old new (Freeze uuid ∷ Fault asked ∷ [])))
CommitFits old new uuid commit.Worn = IsWorn new × (Notes old new [] ⊎ Notes old new (Freeze uuid ∷ []))
CommitFits old new uuid commit.Memory = MayFreeze new uuid × Notes old new []

-- the blocks of 65,536 bytes of a file
abbrev pub blocks_of : List ℕ → ℕ
blocks_of file = (length file + 65535) / 65536

-- a warming of a lower layer
abbrev pub WarmFits : PortState → PortState → ℕ → WarmAnswer → Type 0
WarmFits old new layer (warm.Done blocks) =
    Notes old new [] × (layer < length old.base.lowers) × (IsTrue old.tells → blocks ≡ blocks_of (get_or old.base.lowers layer []))
WarmFits old new layer warm.NoLayer = Notes old new [] × (length old.base.lowers ≤ layer)
WarmFits old new layer warm.Failed = Notes old new [] × (layer < length old.base.lowers) × (old.faults < new.faults)

-- how the image stands. No fault is met
abbrev pub StatusFits : PortState → PortState → StatusAnswer → Type 0
StatusFits old new (status.Now sectors layers entries pending) = Notes old new [] × (new.faults ≡ old.faults) × (sectors ≡ size new.base new.seen)
    × (layers ≡ length (layers_in new)) × (entries ≡ new.first + length new.seen) × (pending ≡ pending_in new)
StatusFits old new status.Worn = IsWorn new × Notes old new [] × (new.faults ≡ old.faults)
