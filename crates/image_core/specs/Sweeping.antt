-- The files of tops that became layers.
use Rattle.std.specs.Prelude.{◌≡◌, ℕ, ◌<◌, List, []}
use Rattle.block_disk.specs.DiskState.{Files}
use Rattle.top_writer.specs.Files.{data_file, index_file, mark_file, TopFiles}

-- the file is one of the top of one of the first epochs
abbrev pub IsSweptFile : ℕ → ℕ → Type 0
IsSweptFile count f = (epoch : ℕ) × (epoch < count) × TopFiles epoch f

-- the files of the top of an epoch are empty, and so those of the first epochs
abbrev pub IsEmptied : Files → ℕ → Type 0
IsEmptied files epoch = (files (data_file epoch) ≡ []) × (files (index_file epoch) ≡ []) × (files (mark_file epoch) ≡ [])

abbrev pub AreEmptied : Files → ℕ → Type 0
AreEmptied files count = (epoch : ℕ) → epoch < count → IsEmptied files epoch
