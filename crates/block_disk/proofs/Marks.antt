-- One byte more that is marked.
use Rattle.std.proofs.Common.{◌≡◌, ℕ, ◌+◌, ◌<◌, List, [], ◌∷◌, ◌++◌, length, drop, get_or, ap, sym, ◌∙◌, append_assoc, Bool, not}
use Rattle.std.specs.Prelude.{if◌then◌else◌}
use Rattle.std.proofs.lemmas.List.{at_drop_more}
use Rattle.block_disk.specs.History.{marked}

pub marked_more : (odd : Bool) (out bytes whole : List ℕ) (i byte : ℕ) → i < length bytes
    → byte ≡ (if odd then 165 else get_or bytes i 0)
    → out ++ marked odd (drop i bytes) ≡ whole
    → (out ++ byte ∷ []) ++ marked (not odd) (drop (i + 1) bytes) ≡ whole
marked_more odd out bytes whole i byte lt is so_far =
    append_assoc out (byte ∷ []) (marked (not odd) (drop (i + 1) bytes))
    ∙ ap (λ b. out ++ (b ∷ marked (not odd) (drop (i + 1) bytes))) is
    ∙ sym (ap (λ m. out ++ m) (at_drop_more (marked odd) bytes i 0 lt))
    ∙ so_far
