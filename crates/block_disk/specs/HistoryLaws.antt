-- What holds of the record of a disk in memory.
use Rattle.std.specs.Prelude.{◌≡◌, ℕ, ◌%◌, List, [], ◌∷◌, length, take, Bool, not, true, false, MatchBool, if◌then◌else◌, ◌==◌}
use Rattle.std.proofs.Common.{refl, sym, subst, arith, inl, inr}
use Rattle.std.proofs.lemmas.Bool.Decides.{leb_tells}
use Rattle.block_disk.specs.declared.history.DiskCall.{DiskCall}
use Rattle.block_disk.specs.declared.history.DiskCall.TheVariants.{Wrote, CutOff, Synced}
use Rattle.block_disk.specs.declared.crash.CrashChoice.{CrashChoice}
use Rattle.block_disk.specs.declared.crash.CrashChoice.TheVariants as choices
use Rattle.block_disk.specs.Changes.{put, Torn, Cut}
use Rattle.block_disk.specs.ChangeLaws.{torn_put, torn_same, cut_take, cut_same}
use Rattle.block_disk.specs.DiskState.{Files}
use Rattle.block_disk.specs.History.{seen_after, fixed_after, torn_after, marked, left_by, LeftAfter, LeftAt}

-- a crash may leave what a read gives
pub seen_stays : (start : Files) (past : List DiskCall) (f : ℕ) → LeftAfter start past f (seen_after start past f)
seen_stays start [] f = refl
seen_stays start (Wrote file at bytes ∷ earlier) f =
    elim (file == f) as (λ b. MatchBool b ((d : List ℕ) × LeftAfter start earlier f d × Torn at (length bytes) d (if b then put (seen_after start earlier f) at bytes else seen_after start earlier f)) (LeftAfter start earlier f (if b then put (seen_after start earlier f) at bytes else seen_after start earlier f))) [
      | true ↦ (seen_after start earlier f, seen_stays start earlier f, torn_put at (length bytes) (seen_after start earlier f) bytes (omega arith))
      | false ↦ seen_stays start earlier f
    ]
seen_stays start (CutOff file size ∷ earlier) f =
    elim (file == f) as (λ b. MatchBool b ((d : List ℕ) × LeftAfter start earlier f d × Cut size d (if b then take size (seen_after start earlier f) else seen_after start earlier f)) (LeftAfter start earlier f (if b then take size (seen_after start earlier f) else seen_after start earlier f))) [
      | true ↦ (seen_after start earlier f, seen_stays start earlier f, cut_take size (seen_after start earlier f))
      | false ↦ seen_stays start earlier f
    ]
seen_stays start (Synced file ∷ earlier) f =
    elim (file == f) as (λ b. MatchBool b (seen_after start earlier f ≡ seen_after start earlier f) (LeftAfter start earlier f (seen_after start earlier f))) [
      | true ↦ refl
      | false ↦ seen_stays start earlier f
    ]

-- what the last sync fixed
pub fixed_stays : (start : Files) (past : List DiskCall) (f : ℕ) → LeftAfter start past f (fixed_after start past f)
fixed_stays start [] f = refl
fixed_stays start (Wrote file at bytes ∷ earlier) f =
    elim (file == f) as (λ b. MatchBool b ((d : List ℕ) × LeftAfter start earlier f d × Torn at (length bytes) d (fixed_after start earlier f)) (LeftAfter start earlier f (fixed_after start earlier f))) [
      | true ↦ (fixed_after start earlier f, fixed_stays start earlier f, torn_same at (length bytes) (fixed_after start earlier f))
      | false ↦ fixed_stays start earlier f
    ]
fixed_stays start (CutOff file size ∷ earlier) f =
    elim (file == f) as (λ b. MatchBool b ((d : List ℕ) × LeftAfter start earlier f d × Cut size d (fixed_after start earlier f)) (LeftAfter start earlier f (fixed_after start earlier f))) [
      | true ↦ (fixed_after start earlier f, fixed_stays start earlier f, cut_same size (fixed_after start earlier f))
      | false ↦ fixed_stays start earlier f
    ]
fixed_stays start (Synced file ∷ earlier) f =
    elim (file == f) as (λ b. MatchBool b ((if b then seen_after start earlier f else fixed_after start earlier f) ≡ seen_after start earlier f) (LeftAfter start earlier f (if b then seen_after start earlier f else fixed_after start earlier f))) [
      | true ↦ refl
      | false ↦ fixed_stays start earlier f
    ]

pub length-marked : (odd : Bool) (bytes : List ℕ) → length (marked odd bytes) ≡ length bytes
length-marked odd [] = refl
length-marked odd (byte ∷ bytes) = omega (arith, length-marked (not odd) bytes)

-- what a torn crash makes of it
pub torn_stays : (start : Files) (past : List DiskCall) (f : ℕ) → LeftAfter start past f (torn_after start past f)
torn_stays start [] f = refl
torn_stays start (Wrote file at bytes ∷ earlier) f =
    elim (file == f) as (λ b. MatchBool b ((d : List ℕ) × LeftAfter start earlier f d × Torn at (length bytes) d (if b then put (torn_after start earlier f) at (marked (at % 2 == 1) bytes) else torn_after start earlier f)) (LeftAfter start earlier f (if b then put (torn_after start earlier f) at (marked (at % 2 == 1) bytes) else torn_after start earlier f))) [
      | true ↦ (torn_after start earlier f, torn_stays start earlier f, torn_put at (length bytes) (torn_after start earlier f) (marked (at % 2 == 1) bytes) (omega (arith, length-marked (at % 2 == 1) bytes)))
      | false ↦ torn_stays start earlier f
    ]
torn_stays start (CutOff file size ∷ earlier) f =
    elim (file == f) as (λ b. MatchBool b ((d : List ℕ) × LeftAfter start earlier f d × Cut size d (if b then take size (torn_after start earlier f) else torn_after start earlier f)) (LeftAfter start earlier f (if b then take size (torn_after start earlier f) else torn_after start earlier f))) [
      | true ↦ (torn_after start earlier f, torn_stays start earlier f, cut_take size (torn_after start earlier f))
      | false ↦ torn_stays start earlier f
    ]
torn_stays start (Synced file ∷ earlier) f =
    elim (file == f) as (λ b. MatchBool b ((if b then seen_after start earlier f else torn_after start earlier f) ≡ seen_after start earlier f) (LeftAfter start earlier f (if b then seen_after start earlier f else torn_after start earlier f))) [
      | true ↦ refl
      | false ↦ torn_stays start earlier f
    ]

-- each choice leaves what a crash may leave
pub left_stays : (choice : CrashChoice) (start : Files) (past : List DiskCall) (f : ℕ) → LeftAfter start past f (left_by choice start past f)
left_stays choices.Old start past f = fixed_stays start past f
left_stays choices.New start past f = seen_stays start past f
left_stays choices.Torn start past f = torn_stays start past f

-- at this very moment a crash might have left what it may leave now
pub now_is_at : (start : Files) (past : List DiskCall) (files : Files) → LeftAt start past (length past) files → (f : ℕ) → LeftAfter start past f (files f)
now_is_at start [] files left = left
now_is_at start (call ∷ earlier) files left = elim (leb_tells (length (call ∷ earlier)) (length earlier)) [
  | inl e ↦ absurd (omega (arith, e.1))
  | inr e ↦ subst (λ b. MatchBool b (LeftAt start earlier (length (call ∷ earlier)) files) ((f : ℕ) → LeftAfter start (call ∷ earlier) f (files f))) e.0 left
]

pub at_is_now : (start : Files) (past : List DiskCall) (files : Files) → ((f : ℕ) → LeftAfter start past f (files f)) → LeftAt start past (length past) files
at_is_now start [] files left = left
at_is_now start (call ∷ earlier) files left = elim (leb_tells (length (call ∷ earlier)) (length earlier)) [
  | inl e ↦ absurd (omega (arith, e.1))
  | inr e ↦ subst (λ b. MatchBool b (LeftAt start earlier (length (call ∷ earlier)) files) ((f : ℕ) → LeftAfter start (call ∷ earlier) f (files f))) (sym e.0) left
]
