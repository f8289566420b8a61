-- How a line is taken from a source.
use Rattle.std.specs.Prelude.{◌≡◌, ◌≢◌, ℕ, ◌<◌, ◌≤◌, ◌⊎◌, true, false, List, [], ◌∷◌, ◌++◌, length, take, All, Option}
use Rattle.std.specs.Io.KnownBytes.{Consumes, IsAtEnd}
use Rattle.control_session.specs.declared.reading.Found.{Found}
use Rattle.control_session.specs.declared.control_end.ControlEnd.{ControlEnd}
use Rattle.control_session.specs.declared.control_end.ControlEnd.TheVariants.{Ended, LongLine, SourceFault}

-- bytes without an LF
abbrev pub IsPlain : List ℕ → Type 0
IsPlain bytes = All (λ byte. byte ≢ 10) bytes

-- a line was taken with its LF, or one with bytes at whose end the input ended
pub record ReadsLine (old new : Option (List ℕ)) (out : List ℕ) (found : Found) : Type 0 where
  pub within : found.count ≤ 256
  pub plain : IsPlain (take found.count out)
  pub whole : found.last ≡ false → Consumes old new (take found.count out ++ 10 ∷ [])
  pub last : found.last ≡ true → (1 ≤ found.count) × Consumes old new (take found.count out) × IsAtEnd new

-- no line was taken: the input ended before one, more bytes were taken than a line may have, or the source failed
pub record StopsReading (old new : Option (List ℕ)) (before now : ℕ) (end : ControlEnd) : Type 0 where
  pub bytes : List ℕ
  pub plain : IsPlain bytes
  pub taken : Consumes old new bytes
  pub cause : ((end ≡ Ended) × (bytes ≡ []) × IsAtEnd new × (now ≡ before))
      ⊎ (((end ≡ LongLine) × (length bytes ≡ 257) × (now ≡ before)) ⊎ ((end ≡ SourceFault) × (length bytes ≤ 256) × (before < now)))
