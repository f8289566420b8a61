-- The numbers of the files of an image. Those of a top are in `top_writer`.
use Rattle.std.specs.Prelude.{ℕ, ◌+◌, ◌*◌, List, Option, Some, None}

abbrev pub manifest_file : ℕ
manifest_file = 0

-- the sealed layer of an epoch
abbrev pub sealed_file : ℕ → ℕ
sealed_file epoch = 4 * epoch + 4

-- one more, where a commit is in progress
abbrev pub with_pending : ℕ → Option (List ℕ) → ℕ
with_pending count None = count
with_pending count (Some uuid) = count + 1
