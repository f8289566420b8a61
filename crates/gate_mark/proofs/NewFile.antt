-- The file of a new mark.
use Rattle.std.proofs.Common.{◌≡◌, ℕ, ◌+◌, ◌-◌, List, [], ◌∷◌, ◌++◌, length, take, drop, sym, ap, ◌∙◌, append_assoc, arith}
use Rattle.std.specs.Prelude.{replicate}
use Rattle.std.specs.Int.{to_le_bytes, w64}
use Rattle.std.proofs.lemmas.List.{append-nil}
use Rattle.block_disk.specs.Changes.{put}
use Rattle.block_disk.specs.DiskState.{DiskState}
use Rattle.gate_mark.specs.MarkFile.{new_mark}
use Rattle.gate_mark.specs.Through.{IsPut}
use Rattle.gate_mark.proofs.SlotWrites.{put_nil}

-- a write at a place of a file that is known, of so many bytes
put_sized : (old : List ℕ) (at : ℕ) (bytes : List ℕ) (n : ℕ) → length bytes ≡ n
    → put old at bytes ≡ take at old ++ replicate (at - length old) 0 ++ bytes ++ drop (at + n) old
put_sized old at bytes n size = ap (λ k. take at old ++ replicate (at - length old) 0 ++ bytes ++ drop (at + k) old) size

numbered_is : (body : List ℕ) → length body ≡ 48
    → put (put (replicate 56 0) 0 (to_le_bytes w64 1)) 8 body ≡ to_le_bytes w64 1 ++ body
numbered_is body size =
    put_sized (put (replicate 56 0) 0 (to_le_bytes w64 1)) 8 body 48 size ∙ append-nil (to_le_bytes w64 1 ++ body)

-- the two slots, closed
closed_are : (body bytes : List ℕ) → bytes ≡ to_le_bytes w64 1 ++ body → length bytes ≡ 56
    → put (replicate 1024 0) 8 bytes ≡ replicate 8 0 ++ (to_le_bytes w64 1 ++ body) ++ replicate 960 0
closed_are body bytes is size =
    put_sized (replicate 1024 0) 8 bytes 56 size ∙ ap (λ b. replicate 8 0 ++ b ++ replicate 960 0) is

zeros_joined : (body : List ℕ) → body ++ replicate 960 0 ≡ body ++ replicate 448 0 ++ replicate 512 0
zeros_joined body = sym (append_assoc body (replicate 448 0) (replicate 512 0))

put_first : (gate : ℕ) (rest : List ℕ) → put (0 ∷ rest) 0 (gate ∷ []) ≡ gate ∷ rest
put_first gate rest =
    let none : 0 - length (0 ∷ rest) ≡ 0 = omega arith in
    ap (λ k. replicate k 0 ++ (gate ∷ []) ++ rest) none

opened_are : (body : List ℕ) → put (replicate 8 0 ++ (to_le_bytes w64 1 ++ body) ++ replicate 960 0) 0 (165 ∷ []) ≡ new_mark body
unfolding new_mark
opened_are body =
    put_first 165 (replicate 7 0 ++ to_le_bytes w64 1 ++ (body ++ replicate 960 0))
    ∙ ap (λ rest. 165 ∷ replicate 7 0 ++ to_le_bytes w64 1 ++ rest) (zeros_joined body)

-- the three writes of a format make it
pub new_mark_is : (body bytes : List ℕ) → length body ≡ 48 → length bytes ≡ 56
    → bytes ≡ put (put (replicate 56 0) 0 (to_le_bytes w64 1)) 8 body
    → put (put (replicate 1024 0) 8 bytes) 0 (165 ∷ []) ≡ new_mark body
new_mark_is body bytes size whole is =
    ap (λ f. put f 0 (165 ∷ [])) (closed_are body bytes (is ∙ numbered_is body size) whole) ∙ opened_are body

-- a crash leaves it after them
pub format_leaves : (file : ℕ) (body bytes blank : List ℕ) (cleared closed new : DiskState)
    → ((c : List ℕ) → cleared.may_leave file c → c ≡ [])
    → ((c : List ℕ) → closed.may_leave file c → IsPut cleared file 0 blank c)
    → ((c : List ℕ) → new.may_leave file c → IsPut closed file 0 (165 ∷ []) c)
    → blank ≡ put (replicate 1024 0) 8 bytes → length body ≡ 48 → length bytes ≡ 56
    → bytes ≡ put (put (replicate 56 0) 0 (to_le_bytes w64 1)) 8 body
    → (c : List ℕ) → new.may_leave file c → c ≡ new_mark body
format_leaves file body bytes blank cleared closed new empty blanked opened is size whole bytes_are c left =
    let last = opened c left in
    let first = blanked last.0 last.1 in
    let closed_is : last.0 ≡ put (replicate 1024 0) 8 bytes = first.2 ∙ ap (λ f. put f 0 blank) (empty first.0 first.1) ∙ put_nil blank ∙ is in
    last.2 ∙ ap (λ f. put f 0 (165 ∷ [])) closed_is ∙ new_mark_is body bytes size whole bytes_are
