-- How claims on every moment of a run of calls go on from call to call.
use Rattle.std.proofs.Common.{◌≡◌, ℕ, List, arith, subst, sym, refl, ◌∙◌, Bool, IsTrue, inl, inr}
use Rattle.std.proofs.lemmas.Bool.Decides.{leb_tells, eqb_tells}
use Rattle.block_disk.specs.Changes.{Same, Only}
use Rattle.block_disk.specs.DiskState.{DiskState, Files, Leaves, LeftSince, Steps}
use Rattle.block_disk.specs.Claims.{Beside, RunBy, Run, FileRun, Quiet}

-- A run of no call.
pub by_started : {I : Type 0} (touched : ℕ → Type 0) (now : DiskState) (P : I → Files → Type 0) (i : I)
    → ((files : Files) → now.left_at now.moment files → Leaves now files)
    → ((files : Files) → Leaves now files → P i files)
    → RunBy touched now now P
by_started touched now P i now_at here = record {
  leaves = record {
    later = omega arith;
    past = λ k files le left. left;
    each = λ k from to. (
      i,
      λ files left.
          let same : k ≡ now.moment = omega arith in
          let leaves = now_at files (subst (λ m. now.left_at m files) same left) in
          record { has = here files leaves; others = λ f apart. leaves f },
    );
  };
  others = record { seen = λ f apart. refl; left = λ f c apart left. left };
}

-- One call more, on a touched file; after it all that a crash may leave has P of this i.
pub by_on : {I : Type 0} (touched : ℕ → Type 0) (old mid new : DiskState) (P : I → Files → Type 0) (file : ℕ) (step : List ℕ → List ℕ → Type 0) (i : I)
    → RunBy touched old mid P → touched file → Steps file step mid new
    → ((files : Files) → Leaves new files → P i files)
    → RunBy touched old new P
by_on {I} touched old mid new P file step i run is_touched steps here =
    let apart_from : (f : ℕ) → ¬ touched f → f ≡ file → ⊥ = λ f apart same. apart (subst touched (sym same) is_touched) in
    record {
      leaves = record {
        later = omega (arith, run.leaves.later, steps.time.later);
        past = λ k files le left. run.leaves.past k files le (steps.time.past k files (omega (arith, le, run.leaves.later)) left);
        each = λ k from to.
            elim (leb_tells k mid.moment) as (λ _. (j : I) × ((files : Files) → new.left_at k files → Beside touched old (P j) files)) [
              | inl before ↦ let at_k = run.leaves.each k from before.1 in (at_k.0, λ files left. at_k.1 files (steps.time.past k files before.1 left))
              | inr after ↦ (
                i,
                λ files left.
                    let leaves = steps.time.since k files after.1 to left in
                    record { has = here files leaves; others = λ f apart. run.others.left f (files f) apart (steps.others.left f (files f) (apart_from f apart) (leaves f)) },
              )
            ];
      };
      others = record {
        seen = λ f apart. steps.others.seen f (apart_from f apart) ∙ run.others.seen f apart;
        left = λ f c apart left. run.others.left f c apart (steps.others.left f c (apart_from f apart) left);
      };
    }

-- One run after another.
pub by_joined : {I : Type 0} (touched : ℕ → Type 0) (old mid new : DiskState) (P : I → Files → Type 0)
    → RunBy touched old mid P → RunBy touched mid new P → RunBy touched old new P
by_joined {I} touched old mid new P first second = record {
  leaves = record {
    later = omega (arith, first.leaves.later, second.leaves.later);
    past = λ k files le left. first.leaves.past k files le (second.leaves.past k files (omega (arith, le, first.leaves.later)) left);
    each = λ k from to.
        elim (leb_tells k mid.moment) as (λ _. (j : I) × ((files : Files) → new.left_at k files → Beside touched old (P j) files)) [
          | inl before ↦ let at_k = first.leaves.each k from before.1 in (at_k.0, λ files left. at_k.1 files (second.leaves.past k files before.1 left))
          | inr after ↦ let at_k = second.leaves.each k (omega (arith, after.1)) to in (
            at_k.0,
            λ files left. let there = at_k.1 files left in
                record { has = there.has; others = λ f apart. first.others.left f (files f) apart (there.others f apart) },
          )
        ];
  };
  others = record {
    seen = λ f apart. second.others.seen f apart ∙ first.others.seen f apart;
    left = λ f c apart left. first.others.left f c apart (second.others.left f c apart left);
  };
}

-- A weaker claim, of another i.
pub by_weakened : {I J : Type 0} (touched : ℕ → Type 0) (old new : DiskState) (P : I → Files → Type 0) (Q : J → Files → Type 0) (turned : I → J)
    → RunBy touched old new P
    → ((i : I) (files : Files) → Beside touched old (P i) files → Q (turned i) files)
    → RunBy touched old new Q
by_weakened touched old new P Q turned run weaker = record {
  leaves = record {
    later = run.leaves.later;
    past = run.leaves.past;
    each = λ k from to. let at_k = run.leaves.each k from to in (
      turned at_k.0,
      λ files left. let there = at_k.1 files left in
          record { has = weaker at_k.0 files there; others = there.others },
    );
  };
  others = run.others;
}

-- A run on a few files is one on more files, and each file that the few leave out is as a crash might have left it at
-- the start.
pub by_widened : {I : Type 0} (few more : ℕ → Type 0) (old new : DiskState) (P : I → Files → Type 0)
    → RunBy few old new P → ((f : ℕ) → few f → more f)
    → RunBy more old new (λ (i : I) files. Beside few old (P i) files)
by_widened few more old new P run wider = record {
  leaves = record {
    later = run.leaves.later;
    past = run.leaves.past;
    each = λ k from to. let at_k = run.leaves.each k from to in (
      at_k.0,
      λ files left. let there = at_k.1 files left in
          record { has = there; others = λ f apart. there.others f (λ is_few. apart (wider f is_few)) },
    );
  };
  others = record {
    seen = λ f apart. run.others.seen f (λ is_few. apart (wider f is_few));
    left = λ f c apart left. run.others.left f c (λ is_few. apart (wider f is_few)) left;
  };
}

-- What a run says of a crash at some moment since its start.
pub by_since : {I : Type 0} (touched : ℕ → Type 0) (old new : DiskState) (P : I → Files → Type 0)
    → RunBy touched old new P → (files : Files) → LeftSince new old.moment files → (i : I) × P i files
by_since touched old new P run files left =
    let at_k = run.leaves.each left.0 left.1 left.2 in (at_k.0, (at_k.1 files left.3).has)

-- The same of a claim without a choice.
pub run_started : (touched : ℕ → Type 0) (now : DiskState) (P : Files → Type 0)
    → ((files : Files) → now.left_at now.moment files → Leaves now files)
    → ((files : Files) → Leaves now files → P files)
    → Run touched now now P
run_started touched now P now_at here = by_started touched now (λ (u : Unit {0}) files. P files) tt now_at here

pub run_on : (touched : ℕ → Type 0) (old mid new : DiskState) (P : Files → Type 0) (file : ℕ) (step : List ℕ → List ℕ → Type 0)
    → Run touched old mid P → touched file → Steps file step mid new
    → ((files : Files) → Leaves new files → P files)
    → Run touched old new P
run_on touched old mid new P file step run is_touched steps here =
    by_on touched old mid new (λ (u : Unit {0}) files. P files) file step tt run is_touched steps here

pub run_joined : (touched : ℕ → Type 0) (old mid new : DiskState) (P : Files → Type 0)
    → Run touched old mid P → Run touched mid new P → Run touched old new P
run_joined touched old mid new P first second = by_joined touched old mid new (λ (u : Unit {0}) files. P files) first second

pub run_weakened : {I : Type 0} (touched : ℕ → Type 0) (old new : DiskState) (P : I → Files → Type 0) (Q : Files → Type 0)
    → RunBy touched old new P
    → ((i : I) (files : Files) → Beside touched old (P i) files → Q files)
    → Run touched old new Q
run_weakened {I} touched old new P Q run weaker =
    by_weakened touched old new P (λ (u : Unit {0}) files. Q files) (λ (i : I). tt) run weaker

pub run_since : (touched : ℕ → Type 0) (old new : DiskState) (P : Files → Type 0)
    → Run touched old new P → (files : Files) → LeftSince new old.moment files → P files
run_since touched old new P run files left = (by_since touched old new (λ (u : Unit {0}) files. P files) run files left).1

-- A call that changes nothing, on any file.
pub quiet_call : (file : ℕ) (old new : DiskState)
    → ((files : Files) → old.left_at old.moment files → Leaves old files)
    → Steps file Same old new → Quiet old new
quiet_call file old new now_at steps =
    let stays : (f : ℕ) (c : List ℕ) → new.may_leave f c → old.may_leave f c = λ f c left.
    elim (eqb_tells f file) [
      | inl e ↦ let before = steps.left c (subst (λ g. new.may_leave g c) e.1 left) in
          subst (λ g. old.may_leave g c) (sym e.1) (subst (old.may_leave file) (sym before.2) before.1)
      | inr e ↦ steps.others.left f c e.1 left
    ] in
    record {
      leaves = record {
        later = steps.time.later;
        past = steps.time.past;
        each = λ k from to. (
          tt,
          λ files left. record {
            has = tt;
            others = λ f apart. elim (leb_tells k old.moment) [
              | inl e ↦ let same : k ≡ old.moment = omega (arith, e.1) in
                  now_at files (subst (λ m. old.left_at m files) same (steps.time.past k files e.1 left)) f
              | inr e ↦ stays f (files f) (steps.time.since k files e.1 to left f)
            ];
          },
        );
      };
      others = record {
        seen = λ f apart. elim (eqb_tells f file) [
          | inl e ↦ subst (λ g. new.seen g ≡ old.seen g) (sym e.1) steps.seen
          | inr e ↦ steps.others.seen f e.1
        ];
        left = λ f c apart left. stays f c left;
      };
    }

-- After a run, calls that change nothing.
pub by_quiet : {I : Type 0} (touched : ℕ → Type 0) (old mid new : DiskState) (P : I → Files → Type 0)
    → RunBy touched old mid P → Quiet mid new
    → ((files : Files) → Leaves mid files → mid.left_at mid.moment files)
    → RunBy touched old new P
by_quiet {I} touched old mid new P run quiet at_now = record {
  leaves = record {
    later = omega (arith, run.leaves.later, quiet.leaves.later);
    past = λ k files le left. run.leaves.past k files le (quiet.leaves.past k files (omega (arith, le, run.leaves.later)) left);
    each = λ k from to.
        elim (leb_tells k mid.moment) as (λ _. (j : I) × ((files : Files) → new.left_at k files → Beside touched old (P j) files)) [
          | inl before ↦ let at_k = run.leaves.each k from before.1 in (at_k.0, λ files left. at_k.1 files (quiet.leaves.past k files before.1 left))
          | inr after ↦ let at_mid = run.leaves.each mid.moment run.leaves.later (omega arith) in (
            at_mid.0,
            λ files left.
                let there = (quiet.leaves.each k (omega (arith, after.1)) to).1 files left in
                at_mid.1 files (at_now files (λ f. there.others f (λ x. x))),
          )
        ];
  };
  others = record {
    seen = λ f apart. quiet.others.seen f (λ x. x) ∙ run.others.seen f apart;
    left = λ f c apart left. run.others.left f c apart (quiet.others.left f c (λ x. x) left);
  };
}

-- A run on one file of which all that a crash left had P, and all that it may leave now has P.
pub record Held (file : ℕ) (old new : DiskState) (P : List ℕ → Type 0) : Type 0 where
  pub run : FileRun file old new P
  pub now : (c : List ℕ) → new.may_leave file c → P c

pub held : (file : ℕ) (now : DiskState) (P : List ℕ → Type 0)
    → ((files : Files) → now.left_at now.moment files → Leaves now files)
    → ((c : List ℕ) → now.may_leave file c → P c)
    → Held file now now P
held file now P now_at here = record {
  run = run_started (λ f. f ≡ file) now (λ files. P (files file)) now_at (λ files leaves. here (files file) (leaves file));
  now = here;
}

-- One call more, of a step under which P lasts.
pub held_on : (file : ℕ) (old mid new : DiskState) (P : List ℕ → Type 0) (step : List ℕ → List ℕ → Type 0)
    → Held file old mid P → Steps file step mid new
    → ((d c : List ℕ) → P d → step d c → P c)
    → Held file old new P
held_on file old mid new P step so_far steps lasts =
    let here : (c : List ℕ) → new.may_leave file c → P c =
    λ c left. let before = steps.left c left in lasts before.0 c (so_far.now before.0 before.1) before.2 in
    record {
      run = run_on (λ f. f ≡ file) old mid new (λ files. P (files file)) file step so_far.run refl steps (λ files leaves. here (files file) (leaves file));
      now = here;
    }

-- One call more, of a kind that changes nothing.
pub held_same : (file : ℕ) (old mid new : DiskState) (P : List ℕ → Type 0)
    → Held file old mid P → Steps file Same mid new → Held file old new P
held_same file old mid new P so_far steps =
    held_on file old mid new P Same so_far steps (λ d c has same. subst P (sym same) has)

-- After a change that succeeded and a sync that succeeded a crash leaves what the change makes of what was read before.
pub settled : (tells : Bool) (file : ℕ) (change : List ℕ → List ℕ) (P Q : List ℕ → Type 0) (old mid new : DiskState)
    → ((c : List ℕ) → new.may_leave file c → IsTrue tells)
    → (IsTrue tells → old.may_leave file (old.seen file))
    → ((c : List ℕ) → old.may_leave file c → P c)
    → (IsTrue tells → mid.seen file ≡ change (old.seen file))
    → Steps file Same mid new
    → Only (new.seen file) (new.may_leave file)
    → ((c : List ℕ) → P c → Q (change c))
    → (c : List ℕ) → new.may_leave file c → Q c
settled tells file change P Q old mid new told stays had changed steps durable made c left =
    let t = told c left in
    let same : c ≡ change (old.seen file) = durable c left ∙ steps.seen ∙ changed t in
    subst Q (sym same) (made (old.seen file) (had (old.seen file) (stays t)))

-- After a sync that succeeded a crash leaves what it might have left before.
pub synced : (tells : Bool) (file : ℕ) (P : List ℕ → Type 0) (old new : DiskState)
    → ((c : List ℕ) → new.may_leave file c → IsTrue tells)
    → Steps file Same old new
    → Only (new.seen file) (new.may_leave file)
    → (IsTrue tells → P (old.seen file))
    → (c : List ℕ) → new.may_leave file c → P c
synced tells file P old new told steps durable made c left =
    let same : c ≡ old.seen file = durable c left ∙ steps.seen in
    subst P (sym same) (made (told c left))
