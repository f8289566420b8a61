-- Where a control line ends, and what it says.
use Rattle.std.specs.Prelude.{◌≢◌, ℕ, Bool, ◌^◌, ◌&&◌, if◌then◌else◌, ◌==◌, nat_lt, List, [], ◌∷◌, length, take, drop, codes, Option, Some, None, option_map, ⊤}
use Rattle.std.specs.List.{list_all}
use Rattle.std.specs.Str.{bytes_eq}
use Rattle.std.specs.Char.{is_ascii_digit}
use Rattle.std.specs.Str.Parse.{digits_value}
use Rattle.uuid.specs.Text.{parsed}
use Rattle.lsmt_header.specs.Blocks.{nil}
use Rattle.control_session.specs.declared.line.Call.TheVariants.{Commit, Warm, Status}
use Rattle.control_session.specs.declared.line.Line.{Line}
use Rattle.control_session.specs.declared.line.Line.TheVariants.{Asks, NoLayer, Quit, Other}

-- a line and what stands behind its LF, where there is an LF
abbrev pub cut_line : List ℕ → Option (List ℕ × List ℕ)
cut_line [] = None
cut_line (byte ∷ bytes) = if byte == 10 then Some ([], bytes) else option_map (λ p. (byte ∷ p.0, p.1)) (cut_line bytes)

-- the number that 1 to 10 decimal digits write
abbrev pub is_number : List ℕ → Bool
is_number digits = nat_lt 0 (length digits) && nat_lt (length digits) 11 && list_all is_ascii_digit digits

abbrev pub layer_number : List ℕ → Option ℕ
layer_number digits = if is_number digits then Some (digits_value 10 digits) else None

-- a commit with that uuid, where there is one that is not nil
abbrev pub commit_line : Option (List ℕ) → Line
commit_line None = Other
commit_line (Some uuid) = if bytes_eq uuid nil then Other else Asks (Commit uuid)

-- the warming of the layer with that number, which may be past every layer's
abbrev pub warm_line : Option ℕ → Line
warm_line None = Other
warm_line (Some number) = if nat_lt number (2 ^ 32) then Asks (Warm number) else NoLayer

-- the line begins so
abbrev pub begins : List ℕ → List ℕ → Bool
begins front line = bytes_eq (take (length front) line) front

-- what a line says: `status`, `quit`, `commit ` with a uuid in any of its forms, `warm ` with a number, or none of these
abbrev pub line_said : List ℕ → Line
line_said line =
    if bytes_eq line (codes "status") then Asks Status else (
    if bytes_eq line (codes "quit") then Quit else (
    if begins (codes "commit ") line then commit_line (parsed (drop 7 line)) else (
    if begins (codes "warm ") line then warm_line (layer_number (drop 5 line)) else
    Other)))

-- what may be asked: no commit with the nil uuid
abbrev pub IsCall : Line → Type 0
IsCall (Asks (Commit uuid)) = uuid ≢ nil
IsCall (Asks (Warm layer)) = ⊤
IsCall (Asks Status) = ⊤
IsCall NoLayer = ⊤
IsCall Quit = ⊤
IsCall Other = ⊤
