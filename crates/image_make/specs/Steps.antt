-- What the steps of `make` do to the image that it made.
use Rattle.std.specs.Prelude.{◌≡◌, ◌≢◌, ℕ, ◌+◌, ◌^◌, ◌<◌, ◌≤◌, IsTrue, Bool, List, [], Contains, Option, None, ⊤}
use Rattle.std.specs.Io.KnownBytes.{Appends, Keeps}
use Rattle.byte_ports.specs.Ports.{AppendsFront}
use Rattle.lsmt_header.specs.Blocks.{nil}
use Rattle.flat_image.specs.declared.act.Asked.{Asked}
use Rattle.flat_image.specs.declared.act.Asked.TheVariants.{Nothing}
use Rattle.flat_image.specs.declared.base.Base.{Base}
use Rattle.flat_image.specs.Entries.{StartsWith}
use Rattle.flat_image.specs.History.{History, after}
use Rattle.image_core.specs.View.{ImageView}
use Rattle.image_core.specs.Committing.{uuids_in}
use Rattle.image_core.specs.Growing.{pending_in}
use Rattle.image_core.specs.Seen.{Seen, StandsFor}
use Rattle.layer_commands.specs.declared.refusal.Refusal.{Refusal}
use Rattle.layer_commands.specs.declared.refusal.Refusal.TheVariants as refused
use Rattle.image_commands.specs.ImageSteps.{Adds, AddsFront}
use Rattle.image_make.specs.declared.draws.Drawn.{Drawn}
use Rattle.image_make.specs.declared.draws.Drawn.TheVariants.{Flush, Zero, Write, Commit}
use Rattle.image_make.specs.declared.sums.Sums.{Sums}
use Rattle.image_make.specs.Sums.{filled_in, sum_in}
use Rattle.image_make.specs.Making.{AsksOf, IsTold, all_entries}

-- up to eight sectors of the image
pub record IsPart (at count : ℕ) : Type 0 where
  pub within : at + count ≤ 4096
  pub few : count ≤ 8

-- the act is one that is drawn
abbrev pub IsDrawn : Drawn → Type 0
IsDrawn Flush = ⊤
IsDrawn (Zero at count) = IsPart at count
IsDrawn (Write at count byte) = IsPart at count
IsDrawn (Commit uuid) = uuid ≢ nil

-- no layer has the uuid of the act, where it is a commit
abbrev pub IsUnlike : List (List ℕ) → Drawn → Type 0
IsUnlike uuids Flush = ⊤
IsUnlike uuids (Zero at count) = ⊤
IsUnlike uuids (Write at count byte) = ⊤
IsUnlike uuids (Commit uuid) = Contains uuids uuid → ⊥

-- the image has 4,096 sectors, room for an act more and no commit in progress, and none of its layers has the act's uuid
pub record MayAct (v : ImageView) (drawn : Drawn) : Type 0 where
  pub drawn_is : IsDrawn drawn
  pub unlike : IsUnlike (uuids_in v) drawn
  pub sectors : v.sectors ≡ 4096
  pub rows : v.rows < 2 ^ 22
  pub filled : v.filled + 8 ≤ 2 ^ 30
  pub free : pending_in v ≡ None

-- why a run of acts stopped, and what was done then: a beginning of them, with a failed step behind it where the disk failed
abbrev pub StopsIn : History → (Asked → Type 0) → (old new : Seen) → Refusal → Type 0
StopsIn acts asks old new refused.Memory = (front : History) × StartsWith acts front × Adds front old new
StopsIn acts asks old new refused.DiskFault = (old.faults < new.faults) × AddsFront acts asks old new
StopsIn acts asks old new other = ⊥

-- a step that asks for nothing that is named
abbrev pub AsksNothing : Asked → Type 0
AsksNothing asked = asked ≡ Nothing

-- what an image holds
pub record IsSumOf (image : List (List ℕ)) (sums : Sums) : Type 0 where
  pub filled : sums.filled ≡ filled_in image
  pub total : sums.sum ≡ sum_in image

-- where the disk tells, it is what the image holds that lies over no layers
abbrev pub SumsUp : Seen → Sums → Type 0
SumsUp image sums =
    IsTrue image.tells → (base : Base) (history : History) → StandsFor image base history → base.lowers ≡ [] → IsSumOf (after base history) sums

-- what is told was written
abbrev pub Tells : ℕ → ℕ → Bool → (written written_now : Option (List ℕ)) → Type 0
Tells seed acts tells written written_now = (text : List ℕ) × IsTold seed acts tells text × Appends written written_now text

-- why not all was done and told, and what was written then
abbrev pub MakeStops : ℕ → ℕ → (old new : Seen) → (sink sink_now : ℕ) → (written written_now : Option (List ℕ)) → Refusal → Type 0
MakeStops seed acts old new sink sink_now written written_now refused.SinkFault =
    (sink < sink_now) × Adds (all_entries seed acts) old new × ((text : List ℕ) × IsTold seed acts old.tells text × AppendsFront written written_now text)
MakeStops seed acts old new sink sink_now written written_now refusal =
    StopsIn (all_entries seed acts) (AsksOf seed acts) old new refusal × Keeps written written_now
