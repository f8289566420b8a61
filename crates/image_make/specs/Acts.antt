-- What the acts that `make` draws do to the image, and how many there are of each kind.
use Rattle.std.specs.Prelude.{ℕ, zero, suc, ◌+◌, ◌*◌, ◌≤◌, Bool, true, ltb, if◌then◌else◌, List, [], ◌∷◌, ◌++◌, replicate}
use Rattle.flat_image.specs.declared.act.Act.{Act}
use Rattle.flat_image.specs.declared.act.Act.TheVariants as act
use Rattle.image_make.specs.declared.draws.Drawn.{Drawn}
use Rattle.image_make.specs.declared.draws.Drawn.TheVariants.{Flush, Zero, Write, Commit}
use Rattle.image_make.specs.declared.tally.Tally.{Tally}
use Rattle.image_make.specs.Draws.{drawn}

-- no act
abbrev pub no_acts : Tally
no_acts = record { writes = 0; zeros = 0; flushes = 0; commits = 0; refused = 0 }

-- no kind has more acts than that
pub record IsSmall (tally : Tally) (most : ℕ) : Type 0 where
  pub writes : tally.writes ≤ most
  pub zeros : tally.zeros ≤ most
  pub flushes : tally.flushes ≤ most
  pub commits : tally.commits ≤ most
  pub refused : tally.refused ≤ most

-- one act more: a commit is refused where 255 were made
abbrev pub with_act : Tally → Drawn → Tally
with_act tally Flush = record tally { flushes = tally.flushes + 1 }
with_act tally (Zero at count) = record tally { zeros = tally.zeros + 1 }
with_act tally (Write at count byte) = record tally { writes = tally.writes + 1 }
with_act tally (Commit uuid) =
    if ltb tally.commits 255 then record tally { commits = tally.commits + 1 } else record tally { refused = tally.refused + 1 }

-- an act is done, but for a commit where there are 255 layers
abbrev pub is_made : ℕ → Drawn → Bool
is_made layers Flush = true
is_made layers (Zero at count) = true
is_made layers (Write at count byte) = true
is_made layers (Commit uuid) = ltb layers 255

-- so many acts, drawn of a seed
unfoldable pub tally_of : ℕ → ℕ → Tally
tally_of seed zero = no_acts
tally_of seed (suc n) = with_act (tally_of seed n) (drawn seed n)

-- what a drawn act does to an image of so many layers: a commit freezes and seals, and where there are 255 it changes nothing
abbrev pub acts_with : ℕ → Drawn → List Act
acts_with layers Flush = act.Flush ∷ []
acts_with layers (Zero at count) = act.Zero at count ∷ []
acts_with layers (Write at count byte) = act.Write at (replicate (512 * count) byte) ∷ []
acts_with layers (Commit uuid) = if ltb layers 255 then act.Freeze uuid ∷ act.Seal uuid ∷ [] else []

-- what so many acts do to the image
unfoldable pub made_acts : ℕ → ℕ → List Act
made_acts seed zero = []
made_acts seed (suc n) = made_acts seed n ++ acts_with (tally_of seed n).commits (drawn seed n)

-- and the flush behind them
abbrev pub all_acts : ℕ → ℕ → List Act
all_acts seed n = made_acts seed n ++ act.Flush ∷ []
