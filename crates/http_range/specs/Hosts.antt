-- What the text of a host says of where it is dialed.
use Rattle.std.specs.Prelude.{◌≡◌, ◌≢◌, ℕ, ◌⊎◌, List, ◌∷◌, ◌++◌, codes, All}

-- a host that is an address in brackets, with nothing before or behind them
abbrev pub IsBracketed : List ℕ → List ℕ → Type 0
IsBracketed host address = host ≡ codes "[" ++ address ++ codes "]"

-- the text that is dialed: the address alone of a host in brackets, any other host as it is
abbrev pub IsDialed : List ℕ → List ℕ → Type 0
IsDialed host text = IsBracketed host text ⊎ ((text ≡ host) × ((address : List ℕ) → ¬ (IsBracketed host address)))

-- a colon (58), behind which no bracket (93) closes, stands before the port
abbrev pub NamesPort : List ℕ → Type 0
NamesPort host = (name : List ℕ) × (port : List ℕ) × (host ≡ name ++ 58 ∷ port) × All (λ b. b ≢ 93) port
