-- Entries of a history, what one caller did in it, and its beginnings.
use Rattle.std.specs.Prelude.{◌≡◌, ℕ, List, ◌++◌, ◌==◌, filter}
use Rattle.flat_image.specs.declared.stands.Entry.{Entry}

-- an act of the caller with that number
abbrev pub entry : {A : Type 0} → ℕ → A → Entry A
entry number act = record { number = number; act = act }

-- the entries with that number, in order
abbrev pub calls_by : {A : Type 0} → ℕ → List (Entry A) → List (Entry A)
calls_by number history = filter (λ e. e.number == number) history

-- the second list is a beginning of the first
pub record StartsWith {A : Type 0} (list start : List A) : Type 0 where
  pub rest : List A
  pub is : list ≡ start ++ rest
