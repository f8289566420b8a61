-- What contracts see of the source and the sink in memory.
use Rattle.std.specs.Prelude.{ℕ, List}

-- the bytes left, the numbers of the calls that fail, the number of the next call, and the faults so far
pub record SourceState : Type 0 where
  pub left : List ℕ
  pub failing : List ℕ
  pub calls : ℕ
  pub faults : ℕ

-- the bytes written, the numbers of the calls that fail, the number of the next call, how many calls
-- found no memory, and the faults so far
pub record SinkState : Type 0 where
  pub bytes : List ℕ
  pub failing : List ℕ
  pub calls : ℕ
  pub wants : ℕ
  pub faults : ℕ
