-- Runs of bytes that are put one after another, of which some are kept before they are written.
use Rattle.std.specs.Prelude.{◌≡◌, ℕ, ◌*◌, if◌then◌else◌, List, ◌++◌, take, drop, replicate, Option}
use Rattle.std.specs.Io.KnownBytes.{Appends}
use Rattle.byte_ports.specs.Ports.{AppendsFront}
use Rattle.seg_mapping.specs.declared.Row.{Row}

-- of the bytes that were put so far some were written, and those behind them are kept
pub record HasPut (old new : Option (List ℕ)) (kept put : List ℕ) : Type 0 where
  pub done : List ℕ
  pub written : Appends old new done
  pub is : done ++ kept ≡ put

-- these bytes were put behind whatever was put before
abbrev pub Puts : Option (List ℕ) → Option (List ℕ) → List ℕ → List ℕ → List ℕ → Type 0
Puts old new kept kept_now bytes = (start : Option (List ℕ)) (put : List ℕ) → HasPut start old kept put → HasPut start new kept_now (put ++ bytes)

-- of what was put before and these bytes a front was written
abbrev pub PutsFront : Option (List ℕ) → Option (List ℕ) → List ℕ → List ℕ → Type 0
PutsFront old new kept bytes = (start : Option (List ℕ)) (put : List ℕ) → HasPut start old kept put → AppendsFront start new (put ++ bytes)

-- so many sectors of zeros
abbrev pub zeros : ℕ → List ℕ
zeros count = replicate {A = ℕ} (512 * count) 0

-- the bytes that a row has for its sectors
abbrev pub row_bytes : List ℕ → Row → List ℕ
row_bytes file row = if row.zeroed then zeros row.count else take (512 * row.count) (drop (512 * row.place) file)
