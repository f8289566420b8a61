-- Answers that are determined but for want of memory.
use Rattle.std.specs.Prelude.{◌≡◌, ◌⊎◌, Result, Ok, Err}

-- the expected answer, or want of memory, which is free
abbrev pub Gives : {X E : Type 0} → E → Result X E → Result X E → Type 0
Gives memory expected result = (result ≡ Err memory) ⊎ (result ≡ expected)

-- the first where it is a fault, else what comes of its value
abbrev pub and_then : {X Y E : Type 0} → Result X E → (X → Result Y E) → Result Y E
and_then (Ok x) next = next x
and_then (Err e) next = Err e
