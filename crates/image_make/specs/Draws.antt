-- The acts that `make` draws of a seed.
use Rattle.std.specs.Prelude.{ℕ, zero, suc, ◌+◌, ◌-◌, ◌*◌, ◌/◌, ◌%◌, ◌^◌, min, ◌==◌, ◌||◌, if◌then◌else◌, List, ◌++◌, replicate}
use Rattle.std.specs.Int.{w32, to_be_bytes}
use Rattle.image_make.specs.declared.draws.Drawn.{Drawn}
use Rattle.image_make.specs.declared.draws.Drawn.TheVariants.{Flush, Zero, Write, Commit}

-- a draw gives the next state
abbrev pub next : ℕ → ℕ
next state = (1103515245 * state + 12345) % 2 ^ 31

-- the state after so many draws
unfoldable pub state_after : ℕ → ℕ → ℕ
state_after seed zero = seed
state_after seed (suc n) = next (state_after seed n)

-- the sector at which an act begins, by its first draw
abbrev pub place_of : ℕ → ℕ
place_of first = first / 256 % 4096

-- its sectors, by its first two draws
abbrev pub count_of : ℕ → ℕ → ℕ
count_of first second = min (1 + second / 256 % 8) (4096 - place_of first)

-- its kind, of sixteen, and the byte of a write, by its third draw
abbrev pub kind_of : ℕ → ℕ
kind_of third = third / 256 % 16

abbrev pub byte_of : ℕ → ℕ
byte_of third = 1 + third / 65536 % 255

-- the uuid of the commit that is the act of that number
abbrev pub uuid_of : ℕ → List ℕ
uuid_of number = replicate {A = ℕ} 12 0 ++ to_be_bytes w32 (number + 1)

-- the first kind is a flush, the next two are zeros and the last is a commit; the others are writes
abbrev pub act_of_kind : ℕ → ℕ → ℕ → ℕ → List ℕ → Drawn
act_of_kind kind at count byte uuid =
    if kind == 0 then Flush
    else if kind == 1 || kind == 2 then Zero at count
    else if kind == 15 then Commit uuid
    else Write at count byte

-- the act of that number, by its three draws
abbrev pub act_by : ℕ → ℕ → ℕ → ℕ → Drawn
act_by number first second third =
    act_of_kind (kind_of third) (place_of first) (count_of first second) (byte_of third) (uuid_of number)

-- the act of that number, by the three draws behind a state
abbrev pub drawn_from : ℕ → ℕ → Drawn
drawn_from number state = act_by number (next state) (next (next state)) (next (next (next state)))

-- the act of that number: three draws were made for each act before it
abbrev pub drawn : ℕ → ℕ → Drawn
drawn seed number = drawn_from number (state_after seed (3 * number))
