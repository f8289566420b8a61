-- Each recorded call keeps the rule of its kind.
use Rattle.std.proofs.Common.{◌≡◌, ℕ, ◌≤◌, List, ◌∷◌, length, refl, sym, subst, arith, Bool, true, false, inl, inr}
use Rattle.std.specs.Prelude.{MatchBool, ◌==◌}
use Rattle.std.proofs.lemmas.Bool.Decides.{leb_tells, eqb_tells}
use Rattle.block_disk.specs.declared.history.DiskCall.{DiskCall}
use Rattle.block_disk.specs.declared.history.DiskCall.TheVariants.{Wrote, CutOff, Synced}
use Rattle.block_disk.specs.declared.history.History.{History}
use Rattle.block_disk.specs.Changes.{Torn, Cut, Same, Only}
use Rattle.block_disk.specs.ChangeLaws.{torn_put, torn_wider, cut_take}
use Rattle.block_disk.specs.DiskState.{DiskState, Files, Elapses, Steps}
use Rattle.block_disk.specs.FileMap.{FileMap, bytes_in}
use Rattle.block_disk.specs.HistoryLaws.{seen_stays}
use Rattle.block_disk.specs.History.{seen_after, LeftAfter, LeftAt, state_after}
use Rattle.block_disk.specs.HistoryState.{past_of, state_of}

is_itself : (file : ℕ) → (file == file) ≡ true
is_itself file = elim (eqb_tells file file) [ inl e ↦ e.0 | inr e ↦ absurd (e.1 refl) ]

is_other : (file f : ℕ) → ¬ (f ≡ file) → (file == f) ≡ false
is_other file f apart = elim (eqb_tells file f) [ inl e ↦ absurd (apart (sym e.1)) | inr e ↦ e.0 ]

-- one more moment
elapsed : (start : Files) (call : DiskCall) (past : List DiskCall) → Elapses (state_after start past) (state_after start (call ∷ past))
elapsed start call past =
    let At : ℕ → Files → Bool → Type 0 = λ k files b. MatchBool b (LeftAt start past k files) ((f : ℕ) → LeftAfter start (call ∷ past) f (files f)) in
    record {
      later = omega arith;
      past = λ k files le left. elim (leb_tells k (length past)) [ inl e ↦ subst (At k files) e.0 left | inr e ↦ absurd (omega (arith, e.1)) ];
      keeps = λ k files le left. elim (leb_tells k (length past)) [ inl e ↦ subst (At k files) (sym e.0) left | inr e ↦ absurd (omega (arith, e.1)) ];
      since = λ k files lt le left. elim (leb_tells k (length past)) [ inl e ↦ absurd (omega (arith, e.1)) | inr e ↦ subst (At k files) e.0 left ];
    }

-- nothing happened
pub no_steps : (file : ℕ) (step : List ℕ → List ℕ → Type 0) (now : DiskState) → ((c : List ℕ) → step c c) → Steps file step now now
no_steps file step now same = record {
  seen = same (now.seen file);
  left = λ c left. (c, left, same c);
  others = record { seen = λ f apart. refl; left = λ f c apart left. left };
  time = record {
    later = omega arith;
    past = λ k files le left. left;
    keeps = λ k files le left. left;
    since = λ k files lt le left. absurd (omega (arith, lt, le));
  };
}

pub wrote_steps : (start : Files) (past : List DiskCall) (file at n : ℕ) (bytes : List ℕ) → length bytes ≤ n
    → Steps file (Torn at n) (state_after start past) (state_after start (Wrote file at bytes ∷ past))
wrote_steps start past file at n bytes fits = record {
  seen = rw (is_itself file) (torn_put at n (seen_after start past file) bytes fits);
  left = λ c left.
      let d = subst (λ b. MatchBool b ((d : List ℕ) × LeftAfter start past file d × Torn at (length bytes) d c) (LeftAfter start past file c)) (is_itself file) left in
      (d.0, d.1, torn_wider at (length bytes) n d.0 c fits d.2);
  others = record {
    seen = λ f apart. rw (is_other file f apart) refl;
    left = λ f c apart left. subst (λ b. MatchBool b ((d : List ℕ) × LeftAfter start past f d × Torn at (length bytes) d c) (LeftAfter start past f c)) (is_other file f apart) left;
  };
  time = elapsed start (Wrote file at bytes) past;
}

pub cut_steps : (start : Files) (past : List DiskCall) (file size : ℕ)
    → Steps file (Cut size) (state_after start past) (state_after start (CutOff file size ∷ past))
cut_steps start past file size = record {
  seen = rw (is_itself file) (cut_take size (seen_after start past file));
  left = λ c left. subst (λ b. MatchBool b ((d : List ℕ) × LeftAfter start past file d × Cut size d c) (LeftAfter start past file c)) (is_itself file) left;
  others = record {
    seen = λ f apart. rw (is_other file f apart) refl;
    left = λ f c apart left. subst (λ b. MatchBool b ((d : List ℕ) × LeftAfter start past f d × Cut size d c) (LeftAfter start past f c)) (is_other file f apart) left;
  };
  time = elapsed start (CutOff file size) past;
}

-- after a sync a crash leaves what a read gives
pub synced_only : (start : Files) (past : List DiskCall) (file : ℕ) → Only (seen_after start past file) (LeftAfter start (Synced file ∷ past) file)
synced_only start past file c left = subst (λ b. MatchBool b (c ≡ seen_after start past file) (LeftAfter start past file c)) (is_itself file) left

pub synced_steps : (start : Files) (past : List DiskCall) (file : ℕ)
    → Steps file Same (state_after start past) (state_after start (Synced file ∷ past))
synced_steps start past file = record {
  seen = refl;
  left = λ c left. (seen_after start past file, seen_stays start past file, synced_only start past file c left);
  others = record {
    seen = λ f apart. refl;
    left = λ f c apart left. subst (λ b. MatchBool b (c ≡ seen_after start past f) (LeftAfter start past f c)) (is_other file f apart) left;
  };
  time = elapsed start (Synced file) past;
}

pub synced_told : (file : ℕ) (old new : History) → new.start ≡ old.start → past_of new ≡ Synced file ∷ past_of old
    → Steps file Same (state_of old) (state_of new)
synced_told file old new start past =
    subst (λ (s : FileMap). Steps file Same (state_of old) (state_after (bytes_in s) (past_of new))) (sym start)
    (subst (λ (p : List DiskCall). Steps file Same (state_of old) (state_after (bytes_in old.start) p)) (sym past) (synced_steps (bytes_in old.start) (past_of old) file))
