-- What the calls of a disk in memory have made of its files, and what a crash may leave of them. The newest call
-- stands first.
use Rattle.std.specs.Prelude.{◌≡◌, ℕ, ◌%◌, List, [], ◌∷◌, length, take, Bool, not, MatchBool, if◌then◌else◌, ◌==◌, nat_le}
use Rattle.block_disk.specs.declared.history.DiskCall.{DiskCall}
use Rattle.block_disk.specs.declared.history.DiskCall.TheVariants.{Wrote, CutOff, Synced}
use Rattle.block_disk.specs.declared.crash.CrashChoice.{CrashChoice}
use Rattle.block_disk.specs.declared.crash.CrashChoice.TheVariants as choices
use Rattle.block_disk.specs.Changes.{put, Torn, Cut}
use Rattle.block_disk.specs.DiskState.{DiskState, Files}

-- what a read gives
abbrev pub seen_after : Files → List DiskCall → ℕ → List ℕ
seen_after start [] f = start f
seen_after start (Wrote file at bytes ∷ earlier) f = if file == f then put (seen_after start earlier f) at bytes else seen_after start earlier f
seen_after start (CutOff file size ∷ earlier) f = if file == f then take size (seen_after start earlier f) else seen_after start earlier f
seen_after start (Synced file ∷ earlier) f = seen_after start earlier f

-- what the last sync that succeeded fixed
abbrev pub fixed_after : Files → List DiskCall → ℕ → List ℕ
fixed_after start [] f = start f
fixed_after start (Wrote file at bytes ∷ earlier) f = fixed_after start earlier f
fixed_after start (CutOff file size ∷ earlier) f = fixed_after start earlier f
fixed_after start (Synced file ∷ earlier) f = if file == f then seen_after start earlier f else fixed_after start earlier f

-- bytes with those at odd places made 0xA5, where the first place is odd or not
abbrev pub marked : Bool → List ℕ → List ℕ
marked odd [] = []
marked odd (byte ∷ bytes) = (if odd then 165 else byte) ∷ marked (not odd) bytes

-- what a read gives, with each byte written since the last sync that succeeded, at an odd place, made 0xA5
abbrev pub torn_after : Files → List DiskCall → ℕ → List ℕ
torn_after start [] f = start f
torn_after start (Wrote file at bytes ∷ earlier) f = if file == f then put (torn_after start earlier f) at (marked (at % 2 == 1) bytes) else torn_after start earlier f
torn_after start (CutOff file size ∷ earlier) f = if file == f then take size (torn_after start earlier f) else torn_after start earlier f
torn_after start (Synced file ∷ earlier) f = if file == f then seen_after start earlier f else torn_after start earlier f

-- what each choice of a crash leaves
abbrev pub left_by : CrashChoice → Files → List DiskCall → ℕ → List ℕ
left_by choices.Old start past f = fixed_after start past f
left_by choices.New start past f = seen_after start past f
left_by choices.Torn start past f = torn_after start past f

-- a crash now may leave these bytes of the file
abbrev pub LeftAfter : Files → List DiskCall → ℕ → List ℕ → Type 0
LeftAfter start [] f c = c ≡ start f
LeftAfter start (Wrote file at bytes ∷ earlier) f c = MatchBool (file == f) ((d : List ℕ) × LeftAfter start earlier f d × Torn at (length bytes) d c) (LeftAfter start earlier f c)
LeftAfter start (CutOff file size ∷ earlier) f c = MatchBool (file == f) ((d : List ℕ) × LeftAfter start earlier f d × Cut size d c) (LeftAfter start earlier f c)
LeftAfter start (Synced file ∷ earlier) f c = MatchBool (file == f) (c ≡ seen_after start earlier f) (LeftAfter start earlier f c)

-- a crash just after the first k of the calls might have left this file set
abbrev pub LeftAt : Files → List DiskCall → ℕ → Files → Type 0
LeftAt start [] k files = (f : ℕ) → LeftAfter start [] f (files f)
LeftAt start (call ∷ earlier) k files = MatchBool (nat_le k (length earlier)) (LeftAt start earlier k files) ((f : ℕ) → LeftAfter start (call ∷ earlier) f (files f))

abbrev pub state_after : Files → List DiskCall → DiskState
state_after start past = record { seen = seen_after start past; may_leave = LeftAfter start past; moment = length past; left_at = LeftAt start past }
