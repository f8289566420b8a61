-- What the layers that a history commits are, painted.
use Rattle.std.specs.Prelude.{◌≡◌, ℕ, false, List, [], ◌∷◌, ◌++◌, map, All, Some}
use Rattle.flat_image.specs.declared.act.Act.TheVariants.{Freeze, Seal}
use Rattle.flat_image.specs.declared.base.Base.{Base}
use Rattle.flat_image.specs.Sheets.{flat}
use Rattle.flat_image.specs.Frozen.{Frozen}
use Rattle.flat_image.specs.LayerReading.{sheet_in}
use Rattle.flat_image.specs.Base.{IsBase, HasFewStretches}
use Rattle.flat_image.specs.Entries.{entry}
use Rattle.flat_image.specs.History.{History, size, after, committed, Proper}
use Rattle.flat_image.specs.Left.{moves_layers}

-- the image, of n sectors, of the lowers and of what is committed after a history, without the top
abbrev pub committed_image : ℕ → Base → History → List (List ℕ)
committed_image n base history = flat n (map sheet_in (base.lowers ++ committed base history))

-- no Freeze and no Seal is in the history
abbrev pub LeavesLayers : History → Type 0
LeavesLayers history = All (λ e. moves_layers e.act ≡ false) history

-- once a Freeze is sealed, the layers up to its own are the image as it was at the Freeze
abbrev pub CommitIsImage : Base → History → Type 0
CommitIsImage base front =
    (freezer sealer : ℕ) (uuid : List ℕ) (between : History) → IsBase base → HasFewStretches base
    → Proper base (front ++ entry freezer (Freeze uuid) ∷ (between ++ entry sealer (Seal uuid) ∷ [])) → LeavesLayers between
    → committed_image (size base front) base (front ++ entry freezer (Freeze uuid) ∷ (between ++ entry sealer (Seal uuid) ∷ [])) ≡ after base front

-- and once a commit is sealed that was in progress at the beginning, they are the layers then and the frozen sheet
abbrev pub OpenCommitIsImage : Base → Type 0
OpenCommitIsImage base =
    (f : Frozen) (sealer : ℕ) (uuid : List ℕ) (between : History) → base.frozen ≡ Some f → IsBase base → HasFewStretches base
    → Proper base (between ++ entry sealer (Seal uuid) ∷ []) → LeavesLayers between
    → committed_image base.sectors base (between ++ entry sealer (Seal uuid) ∷ []) ≡ flat base.sectors (map sheet_in (base.lowers ++ base.done) ++ f.sheet ∷ [])
