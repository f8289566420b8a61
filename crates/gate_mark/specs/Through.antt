-- A write and a sync of one file.
use Rattle.std.specs.Prelude.{◌≡◌, ℕ, List}
use Rattle.block_disk.specs.Changes.{put, Torn}
use Rattle.block_disk.specs.DiskState.{DiskState}

-- an old outcome with the write done in part or torn
abbrev pub IsTorn : DiskState → ℕ → ℕ → ℕ → List ℕ → Type 0
IsTorn old file at n c = (d : List ℕ) × old.may_leave file d × Torn at n d c

-- an old outcome with the write done
abbrev pub IsPut : DiskState → ℕ → ℕ → List ℕ → List ℕ → Type 0
IsPut old file at bytes c = (d : List ℕ) × old.may_leave file d × (c ≡ put d at bytes)
