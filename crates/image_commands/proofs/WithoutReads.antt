-- Reads change nothing of an image, and leave nothing.
use Rattle.std.proofs.Common.{◌≡◌, ℕ, Bool, true, false, List, [], ◌∷◌, ◌++◌, take, drop, refl, sym, ap, ◌∙◌, subst, inl, inr}
use Rattle.std.specs.Prelude.{fold, All, Option, None, Some}
use Rattle.std.proofs.lemmas.List.Elements.{All-nil, All-cons, All-head, All-tail, All-filter, filter-append}
use Rattle.block_disk.specs.DiskState.{Files}
use Rattle.flat_image.specs.declared.act.Act.{Act}
use Rattle.flat_image.specs.declared.act.Act.TheVariants.{Read, Write, Zero, Flush, Freeze, Seal, Grow, Fault}
use Rattle.flat_image.specs.declared.act.Asked.{Asked}
use Rattle.flat_image.specs.declared.act.Asked.TheVariants.{Uuid, Sectors}
use Rattle.flat_image.specs.declared.base.Base.{Base}
use Rattle.flat_image.specs.declared.stands.Entry.{Entry}
use Rattle.flat_image.specs.Sheets.{bytes_of}
use Rattle.flat_image.specs.Base.{image_of}
use Rattle.flat_image.specs.Entries.{entry}
use Rattle.flat_image.specs.History.{History, now, after, step, changed, keeps, kept, reply}
use Rattle.flat_image.specs.Left.{Stand, stand, put_top, Kept, ends_blame, Blamed, Advances, Left}
use Rattle.flat_image.proofs.HistoryLaws.{after-append}
use Rattle.image_core.specs.Shows.{Shows}
use Rattle.image_core.specs.Standing.{ShowsLeft}
use Rattle.image_core.proofs.StandLaws.{kept-shows}
use Rattle.image_commands.specs.Images.{kept_change, commit_acts, entries}
use Rattle.image_commands.specs.ImageSteps.{is_no_read, without_reads}

abbrev IsKeptIn : Entry Act → Bool
IsKeptIn e = is_no_read e.act

pub without-append : (h more : History) → without_reads (h ++ more) ≡ without_reads h ++ without_reads more
without-append h more = filter-append IsKeptIn h more

-- ---- a run over a history that a read does not change

module _ {S : Type 0} (f : S → Act → S) (unread : (s : S) (at count : ℕ) → f s (Read at count) ≡ s) where
  abbrev run : S → History → S
  run s h = fold (λ x e. f x e.act) s h

  run-entry : (number : ℕ) (act : Act) (es : History) → ((s : S) → run s es ≡ run s (without_reads es)) → (s : S)
      → run s (entry number act ∷ es) ≡ run s (without_reads (entry number act ∷ es))
  run-entry number (Read at count) es same s = ap (λ (t : S). run t es) (unread s at count) ∙ same s
  run-entry number (Write at bytes) es same s = same (f s (Write at bytes))
  run-entry number (Zero at count) es same s = same (f s (Zero at count))
  run-entry number Flush es same s = same (f s Flush)
  run-entry number (Freeze uuid) es same s = same (f s (Freeze uuid))
  run-entry number (Seal uuid) es same s = same (f s (Seal uuid))
  run-entry number (Grow sectors) es same s = same (f s (Grow sectors))
  run-entry number (Fault asked) es same s = same (f s (Fault asked))

  pub run-without : (h : History) (s : S) → run s h ≡ run s (without_reads h)
  run-without [] s = refl
  run-without (e ∷ es) s = run-entry e.number e.act es (run-without es) s

pub now-without : (base : Base) (h : History) → now base h ≡ now base (without_reads h)
now-without base h = run-without step (λ s at count. refl) h base

pub after-without : (base : Base) (h : History) → after base h ≡ after base (without_reads h)
after-without base h = run-without changed (λ s at count. refl) h (image_of base)

-- ---- what a crash leaves

pub kept-without : (h front : History) → Kept h front → Kept (without_reads h) (without_reads front)
kept-without h front k = record {
  rest = without_reads k.rest;
  splits = ap without_reads k.splits ∙ without-append front k.rest;
  unkept = All-filter IsKeptIn (λ e. keeps e.act ≡ false) k.rest k.unkept;
}

pub blamed-without : (h : History) (asked : Asked) → Blamed h asked → Blamed (without_reads h) asked
blamed-without h asked b = record {
  front = without_reads b.front;
  number = b.number;
  rest = without_reads b.rest;
  splits = ap without_reads b.splits ∙ without-append b.front (entry b.number (Fault asked) ∷ b.rest);
  since = All-filter IsKeptIn (λ e. ends_blame e.act ≡ false) b.rest b.since;
}

pub left-without : (base : Base) (h : History) (b : Base) → Left base h b → Left base (without_reads h) b
left-without base h b left =
    let whole = now-without base h in
    let part = now-without base left.front in
    let s : Base = put_top (now base h) (stand (now base left.front)) in
    let t : Base = put_top (now base (without_reads h)) (stand (now base (without_reads left.front))) in
    let same : s ≡ t = ap (λ (c : Base). put_top c (stand (now base left.front))) whole ∙ ap (λ (c : Base). put_top (now base (without_reads h)) (stand c)) part in
    record {
      front = without_reads left.front;
      kept = kept-without h left.front left.kept;
      is = elim left.is [
        | inl is ↦ inl (is ∙ same)
        | inr found ↦ inr (found.0, blamed-without h found.0 found.1, subst (λ (c : Base). Advances c found.0 b) same found.2)
      ];
    }

pub shows-without : (base : Base) (h : History) (files : Files) → ShowsLeft base h files → ShowsLeft base (without_reads h) files
shows-without base h files left = record { found = left.found; shows = left.shows; left = left-without base h left.found left.left }

-- ---- a history without a failed step

abbrev IsUnkept : Entry Act → Type 0
IsUnkept e = keeps e.act ≡ false

abbrev IsGood : Entry Act → Type 0
IsGood e = (asked : Asked) → e.act ≡ Fault asked → ⊥

no-blame : (h front rest : History) (number : ℕ) (asked : Asked) → All IsGood h → h ≡ front ++ (entry number (Fault asked) ∷ rest) → ⊥
no-blame h [] rest number asked good splits =
    All-head IsGood (entry number (Fault asked)) rest (subst (λ (l : History). All IsGood l) splits good) asked refl
no-blame [] (e ∷ front) rest number asked good splits = cc
no-blame (x ∷ h) (e ∷ front) rest number asked good splits =
    let behind : h ≡ front ++ (entry number (Fault asked) ∷ rest) = cc in
    no-blame h front rest number asked (All-tail IsGood x h good) behind

-- a change that may be asked for of an image
abbrev pub IsChange : Act → Type 0
IsChange (Read at count) = ⊥
IsChange (Write at bytes) = Unit {0}
IsChange (Zero at count) = Unit {0}
IsChange Flush = ⊥
IsChange (Freeze uuid) = ⊥
IsChange (Seal uuid) = ⊥
IsChange (Grow sectors) = ⊥
IsChange (Fault asked) = ⊥

change-good : (act : Act) → IsChange act → (asked : Asked) → act ≡ Fault asked → ⊥
change-good (Read at count) is asked e = absurd is
change-good (Write at bytes) is asked e = cc
change-good (Zero at count) is asked e = cc
change-good Flush is asked e = absurd is
change-good (Freeze uuid) is asked e = absurd is
change-good (Seal uuid) is asked e = absurd is
change-good (Grow sectors) is asked e = absurd is
change-good (Fault other) is asked e = absurd is

flush-good : (asked : Asked) → Flush ≡ Fault asked → ⊥
flush-good asked e = cc

-- what a crash leaves of nothing done shows the base
pub shows-none : (base : Base) (files : Files) → ShowsLeft base [] files → Shows files base
shows-none base files left =
    kept-shows base [] files left refl (λ uuid blamed. no-blame [] blamed.front blamed.rest blamed.number (Uuid uuid) (All-nil IsGood) blamed.splits)
    (λ sectors blamed. no-blame [] blamed.front blamed.rest blamed.number (Sectors sectors) (All-nil IsGood) blamed.splits)

-- and of a change that was flushed, what it made of the base
pub shows-kept : (base : Base) (act : Act) (files : Files) → IsChange act → kept (entries (kept_change act)) ≡ 2 → ShowsLeft base (entries (kept_change act)) files → Shows files (now base (entries (kept_change act)))
shows-kept base act files is all left =
    let good : All IsGood (entries (kept_change act)) =
    All-cons IsGood (entry 0 act) (entry 0 Flush ∷ []) (change-good act is) (All-cons IsGood (entry 0 Flush) [] flush-good (All-nil IsGood)) in
    kept-shows base (entries (kept_change act)) files left all
    (λ uuid blamed. no-blame (entries (kept_change act)) blamed.front blamed.rest blamed.number (Uuid uuid) good blamed.splits)
    (λ sectors blamed. no-blame (entries (kept_change act)) blamed.front blamed.rest blamed.number (Sectors sectors) good blamed.splits)

grow-good : (sectors : ℕ) (asked : Asked) → Grow sectors ≡ Fault asked → ⊥
grow-good sectors asked e = cc

-- and of a grow, the base with so many sectors
pub shows-grown : (base : Base) (sectors : ℕ) (files : Files) → ShowsLeft base (entries (Grow sectors ∷ [])) files → Shows files (now base (entries (Grow sectors ∷ [])))
shows-grown base sectors files left =
    let good : All IsGood (entries (Grow sectors ∷ [])) = All-cons IsGood (entry 0 (Grow sectors)) [] (grow-good sectors) (All-nil IsGood) in
    kept-shows base (entries (Grow sectors ∷ [])) files left refl
    (λ uuid blamed. no-blame (entries (Grow sectors ∷ [])) blamed.front blamed.rest blamed.number (Uuid uuid) good blamed.splits)
    (λ n blamed. no-blame (entries (Grow sectors ∷ [])) blamed.front blamed.rest blamed.number (Sectors n) good blamed.splits)

-- ---- what is read

pub reply-read : (base : Base) (h more : History) (at count : ℕ) → without_reads more ≡ [] → reply base (h ++ more) at count ≡ reply base h at count
reply-read base h more at count none = ap (λ (image : List (List ℕ)). bytes_of (take count (drop at image))) (
    after-append base h more
    ∙ run-without changed (λ s a c. refl) more (after base h)
    ∙ ap (λ (l : History). fold (λ image e. changed image e.act) (after base h) l) none)

freeze-good : (uuid : List ℕ) (asked : Asked) → Freeze uuid ≡ Fault asked → ⊥
freeze-good uuid asked e = cc

seal-good : (uuid : List ℕ) (asked : Asked) → Seal uuid ≡ Fault asked → ⊥
seal-good uuid asked e = cc

commit-good : (uuid : List ℕ) (pending : Option (List ℕ)) → All IsGood (entries (commit_acts uuid pending))
commit-good uuid None =
    All-cons IsGood (entry 0 (Freeze uuid)) (entry 0 (Seal uuid) ∷ []) (freeze-good uuid) (All-cons IsGood (entry 0 (Seal uuid)) [] (seal-good uuid) (All-nil IsGood))
commit-good uuid (Some own) = All-cons IsGood (entry 0 (Seal uuid)) [] (seal-good uuid) (All-nil IsGood)

-- a beginning that has all that is kept of a commit has its top, which a seal leaves as it is
commit-stand : (base : Base) (uuid : List ℕ) (pending : Option (List ℕ)) (front : History) → Kept (entries (commit_acts uuid pending)) front
    → stand (now base front) ≡ stand (now base (entries (commit_acts uuid pending)))
commit-stand base uuid None [] k =
    let all : All IsUnkept (entry 0 (Freeze uuid) ∷ entry 0 (Seal uuid) ∷ []) = subst (λ (l : History). All IsUnkept l) (sym k.splits) k.unkept in
    let unlike : true ≡ false = All-head IsUnkept (entry 0 (Freeze uuid)) (entry 0 (Seal uuid) ∷ []) all in
    absurd (cc)
commit-stand base uuid None (x ∷ []) k =
    let splits : entry 0 (Freeze uuid) ∷ (entry 0 (Seal uuid) ∷ []) ≡ x ∷ k.rest = k.splits in
    let first : x ≡ entry 0 (Freeze uuid) = cc in
    ap (λ (a : Entry Act). stand (step base a.act)) first
commit-stand base uuid None (x ∷ y ∷ []) k =
    let splits : entry 0 (Freeze uuid) ∷ (entry 0 (Seal uuid) ∷ []) ≡ x ∷ (y ∷ k.rest) = k.splits in
    let first : x ≡ entry 0 (Freeze uuid) = cc in
    let second : y ≡ entry 0 (Seal uuid) = cc in
    ap (λ (a : Entry Act). stand (step (step base a.act) y.act)) first ∙ ap (λ (a : Entry Act). stand (step (step base (Freeze uuid)) a.act)) second
commit-stand base uuid None (x ∷ y ∷ z ∷ more) k =
    let splits : entry 0 (Freeze uuid) ∷ (entry 0 (Seal uuid) ∷ []) ≡ x ∷ (y ∷ (z ∷ (more ++ k.rest))) = k.splits in
    absurd (cc)
commit-stand base uuid (Some own) [] k = refl
commit-stand base uuid (Some own) (x ∷ []) k =
    let splits : entry 0 (Seal uuid) ∷ [] ≡ x ∷ k.rest = k.splits in
    let first : x ≡ entry 0 (Seal uuid) = cc in
    ap (λ (a : Entry Act). stand (step base a.act)) first
commit-stand base uuid (Some own) (x ∷ y ∷ more) k =
    let splits : entry 0 (Seal uuid) ∷ [] ≡ x ∷ (y ∷ (more ++ k.rest)) = k.splits in
    absurd (cc)

-- and of a commit, the base with the layer
pub shows-committed : (base : Base) (uuid : List ℕ) (pending : Option (List ℕ)) (files : Files) → ShowsLeft base (entries (commit_acts uuid pending)) files → Shows files (now base (entries (commit_acts uuid pending)))
shows-committed base uuid pending files shown =
    let h : History = entries (commit_acts uuid pending) in
    let good : All IsGood h = commit-good uuid pending in
    let same : put_top (now base h) (stand (now base shown.left.front)) ≡ now base h = ap (λ (s : Stand). put_top (now base h) s) (commit-stand base uuid pending shown.left.front shown.left.kept) in
    let is : shown.found ≡ now base h = elim shown.left.is [
      | inl found ↦ found ∙ same
      | inr other ↦ absurd (no-blame h other.1.front other.1.rest other.1.number other.0 good other.1.splits)
    ] in
    subst (λ (b : Base). Shows files b) is shown.shows
