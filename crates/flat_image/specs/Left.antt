-- What a crash leaves of an image and its history.
use Rattle.std.specs.Prelude.{◌≡◌, ℕ, ◌⊎◌, Bool, true, false, List, ◌∷◌, ◌++◌, All, Some, None}
use Rattle.flat_image.specs.declared.act.Act.{Act}
use Rattle.flat_image.specs.declared.act.Act.TheVariants.{Read, Write, Zero, Flush, Freeze, Seal, Grow, Fault}
use Rattle.flat_image.specs.declared.act.Asked.{Asked}
use Rattle.flat_image.specs.declared.act.Asked.TheVariants.{Nothing, Uuid, Sectors}
use Rattle.flat_image.specs.declared.base.Base.{Base}
use Rattle.flat_image.specs.Sheets.{Cell}
use Rattle.flat_image.specs.Base.{holes, pending_of}
use Rattle.flat_image.specs.Entries.{entry}
use Rattle.flat_image.specs.History.{History, step, now, keeps}

-- a top, seen from above: its cells, and what it has used
pub record Stand : Type 0 where
  pub cells : List Cell
  pub rows : ℕ
  pub filled : ℕ

-- the top of an image
abbrev pub stand : Base → Stand
stand b = record { cells = b.top; rows = b.rows; filled = b.filled }

-- the image with that top in place of its own
abbrev pub put_top : Base → Stand → Base
put_top b s = record b { top = s.cells; rows = s.rows; filled = s.filled }

-- a top in which nothing was written
abbrev pub fresh_stand : ℕ → Stand
fresh_stand n = record { cells = holes n; rows = 0; filled = 0 }

-- the front is a beginning of the history that has all that is kept
pub record Kept (history front : History) : Type 0 where
  pub rest : History
  pub splits : history ≡ front ++ rest
  pub unkept : All (λ e. keeps e.act ≡ false) rest

-- an act that changes which layers the image is made of
abbrev pub moves_layers : Act → Bool
moves_layers (Read at count) = false
moves_layers (Write at bytes) = false
moves_layers (Zero at count) = false
moves_layers Flush = false
moves_layers (Freeze uuid) = true
moves_layers (Seal uuid) = true
moves_layers (Grow sectors) = false
moves_layers (Fault asked) = false

-- an act that is made of what the manifest names by then, so that no step that failed before it is to blame any more
abbrev pub ends_blame : Act → Bool
ends_blame (Read at count) = false
ends_blame (Write at bytes) = false
ends_blame (Zero at count) = false
ends_blame Flush = false
ends_blame (Freeze uuid) = true
ends_blame (Seal uuid) = true
ends_blame (Grow sectors) = true
ends_blame (Fault asked) = false

-- a step that was asked for this failed, and no freeze, no seal and no grow has come since
pub record Blamed (history : History) (asked : Asked) : Type 0 where
  pub front : History
  pub number : ℕ
  pub rest : History
  pub splits : history ≡ front ++ (entry number (Fault asked) ∷ rest)
  pub since : All (λ e. ends_blame e.act ≡ false) rest

-- the image as the failed step would have made it: frozen or grown where nothing is pending, sealed where that uuid is
abbrev pub Advances : Base → Asked → Base → Type 0
Advances s Nothing b = ⊥
Advances s (Uuid uuid) b =
    ((pending_of s.frozen ≡ None) × (b ≡ step s (Freeze uuid))) ⊎ ((pending_of s.frozen ≡ Some uuid) × (b ≡ step s (Seal uuid)))
Advances s (Sectors sectors) b = (pending_of s.frozen ≡ None) × (b ≡ step s (Grow sectors))

-- a crash may leave b: what the history made, with the top of a beginning that has all that is kept, or that as a
-- failed freeze, seal or grow would have made it
pub record Left (base : Base) (history : History) (b : Base) : Type 0 where
  pub front : History
  pub kept : Kept history front
  pub is : let s = put_top (now base history) (stand (now base front)) in
      (b ≡ s) ⊎ ((asked : Asked) × Blamed history asked × Advances s asked b)
