-- Laws of a history: one entry longer, in two parts, since the last Freeze, and the image that it makes.
use Rattle.std.proofs.Common.{◌≡◌, ◌⊎◌, ◌||◌, ℕ, zero, suc, ◌+◌, ◌-◌, ◌≤◌, Bool, true, false, cond, List, [], ◌∷◌, ◌++◌, length, map, take, drop, refl, sym, ap, ◌∙◌, subst, inl, inr, arith, append_assoc, append-nil, length-append, length-take, add_assoc, add-zero}
use Rattle.std.proofs.Math.ListN.{replicate}
use Rattle.std.proofs.lemmas.List.{length-map, length-replicate, map-append, take-append-drop}
use Rattle.std.proofs.Math.Seq.{take-append_seam}
use Rattle.std.proofs.lemmas.List.Sums.{fold-append, sum_by-append, sum_by-cons}
use Rattle.std.proofs.lemmas.List.Elements.{All-nil, All-cons, All-head, All-tail, All-append, All-map, All-take, All-drop, All-replicate, All-weaker}
use Rattle.std.specs.Prelude.{fold, All, Option, Some, None, IfSome}
use Rattle.flat_image.specs.declared.act.Act.{Act}
use Rattle.flat_image.specs.declared.act.Act.TheVariants.{Read, Write, Zero, Flush, Freeze, Seal, Grow, Fault}
use Rattle.flat_image.specs.declared.base.Base.{Base}
use Rattle.flat_image.specs.declared.stands.Entry.{Entry}
use Rattle.flat_image.specs.Sheets.{Cell, Filled, Hole, IsCell, IsSheet, IsImage, zero_sector, paint, lengthened, flat}
use Rattle.flat_image.specs.Sheets as sheets
use Rattle.flat_image.specs.Sectors.{sectors_in, put_at}
use Rattle.flat_image.specs.Frozen.{Frozen}
use Rattle.flat_image.specs.CanonicalFiles.{file_of}
use Rattle.flat_image.specs.Stacks.{AreRising}
use Rattle.flat_image.specs.LayerReading.{sheet_in, size_in}
use Rattle.flat_image.specs.Base.{holes, with_holes, top_uuid, top_size, pending_of, sheet_list, sheets_of, image_of, IsLayerFile, IsFrozen, IsBase}
use Rattle.flat_image.specs.Entries.{entry, StartsWith}
use Rattle.flat_image.specs.History.{History, step, now, after, changed, written, rows_taken, sectors_taken, sealed_over, committed, frozen, used_rows, used_sectors, keeps, kept_from, kept, Proper, Allowed, HasRoom, is_fault, fault_count}
use Rattle.flat_image.specs.Left.{Kept, moves_layers}
use Rattle.flat_image.specs.HistoryLaws.{freezes, has_freeze, since_freeze, grown, last_size, SizeIsLast, SizeRises, TopIsSinceFreeze, UsedIsSum, FreezeTakesTop, FrozenStays, SealAddsFile, KeptIsPlace, KeptReaches, BaseStays, AfterIsImage, BaseIsImage}
use Rattle.flat_image.proofs.Painting.{FitsIn, AreCells, flat-over, flat-lengthened, paint-append, paint-holes, paint-filled, paint-zeros, paint-put_at, length-paint, length-put_at, length-flat, length-sectors_in, whole-sectors_in, AreSectors-flat}
use Rattle.flat_image.proofs.LayerLaws.{sheet_in-layer, size_in-layer, IsSheet-layer, sheet_in-IsLayer, size_in-IsLayer}
use Rattle.flat_image.proofs.StackSizes.{rising-low, rising-more, rising-push}
use Rattle.flat_image.proofs.SealedSheets.{sealed_file, SealsLayer, seals-layer, few-step}

-- a history in two parts, and one entry longer
pub now-append : (b : Base) (h more : History) → now b (h ++ more) ≡ now (now b h) more
now-append b [] more = refl
now-append b (e ∷ h) more = now-append (step b e.act) h more

pub now-entry : (b : Base) (h : History) (number : ℕ) (act : Act) → now b (h ++ entry number act ∷ []) ≡ step (now b h) act
now-entry b h number act = now-append b h (entry number act ∷ [])

pub after-append : (b : Base) (h more : History) → after b (h ++ more) ≡ fold (λ image e. changed image e.act) (after b h) more
after-append b h more = fold-append (λ (image : List (List ℕ)) (e : Entry Act). changed image e.act) (image_of b) h more

pub after-entry : (b : Base) (h : History) (number : ℕ) (act : Act) → after b (h ++ entry number act ∷ []) ≡ changed (after b h) act
after-entry b h number act = after-append b h (entry number act ∷ [])

-- what stays along every history
pub step-sectors : (b : Base) (act : Act) → (step b act).sectors ≡ grown b.sectors act
step-sectors b (Read at count) = refl
step-sectors b (Write at bytes) = refl
step-sectors b (Zero at count) = refl
step-sectors b Flush = refl
step-sectors b (Freeze uuid) = refl
step-sectors b (Seal uuid) = refl
step-sectors b (Grow sectors) = refl
step-sectors b (Fault asked) = refl

pub size-last : (b : Base) (h : History) → SizeIsLast b h
size-last b [] = refl
size-last b (e ∷ h) = size-last (step b e.act) h ∙ ap (λ (n : ℕ). last_size n h) (step-sectors b e.act)

-- an image never gets smaller
step-rises : (b : Base) (act : Act) → Allowed b act → b.sectors ≤ (step b act).sectors
step-rises b (Read at count) may = omega arith
step-rises b (Write at bytes) may = omega arith
step-rises b (Zero at count) may = omega arith
step-rises b Flush may = omega arith
step-rises b (Freeze uuid) may = omega arith
step-rises b (Seal uuid) may = omega arith
step-rises b (Grow sectors) may = omega (arith, may.more)
step-rises b (Fault asked) may = omega arith

pub size-rises : (b : Base) (h : History) → SizeRises b h
size-rises b [] p = omega arith
size-rises b (e ∷ h) p = omega (arith, step-rises b e.act p.1, size-rises (step b e.act) h p.2)

-- an act that is no Grow, and one that does not keep, leaves the size
abbrev pub LeavesSize : Entry Act → Type 0
LeavesSize e = (n : ℕ) → grown n e.act ≡ n

unkept-size : (act : Act) → keeps act ≡ false → (n : ℕ) → grown n act ≡ n
unkept-size (Read at count) is n = refl
unkept-size (Write at bytes) is n = refl
unkept-size (Zero at count) is n = refl
unkept-size Flush is n = refl
unkept-size (Freeze uuid) is n = refl
unkept-size (Seal uuid) is n = refl
unkept-size (Grow sectors) is n = absurd (cc)
unkept-size (Fault asked) is n = refl

pub now-sectors : (b : Base) (h : History) → All LeavesSize h → (now b h).sectors ≡ b.sectors
now-sectors b [] leave = refl
now-sectors b (e ∷ h) leave =
    now-sectors (step b e.act) h (All-tail LeavesSize e h leave)
    ∙ (step-sectors b e.act ∙ All-head LeavesSize e h leave b.sectors)

-- a beginning that has all that is kept has the size of the whole
pub kept-size : (b : Base) (h front : History) → Kept h front → (now b front).sectors ≡ (now b h).sectors
kept-size b h front kept =
    sym (ap (λ (l : History). (now b l).sectors) kept.splits
    ∙ (ap (λ (v : Base). v.sectors) (now-append b front kept.rest)
    ∙ now-sectors (now b front) kept.rest (All-weaker (λ (e : Entry Act). keeps e.act ≡ false) LeavesSize (λ e. unkept-size e.act) kept.rest kept.unkept)))

pub step-lowers : (b : Base) (act : Act) → (step b act).lowers ≡ b.lowers
step-lowers b (Read at count) = refl
step-lowers b (Write at bytes) = refl
step-lowers b (Zero at count) = refl
step-lowers b Flush = refl
step-lowers b (Freeze uuid) = refl
step-lowers b (Seal uuid) = refl
step-lowers b (Grow sectors) = refl
step-lowers b (Fault asked) = refl

pub now-lowers : (b : Base) (h : History) → (now b h).lowers ≡ b.lowers
now-lowers b [] = refl
now-lowers b (e ∷ h) = now-lowers (step b e.act) h ∙ step-lowers b e.act

pub step-faults : (b : Base) (act : Act) → (step b act).faults ≡ b.faults
step-faults b (Read at count) = refl
step-faults b (Write at bytes) = refl
step-faults b (Zero at count) = refl
step-faults b Flush = refl
step-faults b (Freeze uuid) = refl
step-faults b (Seal uuid) = refl
step-faults b (Grow sectors) = refl
step-faults b (Fault asked) = refl

pub now-faults : (b : Base) (h : History) → (now b h).faults ≡ b.faults
now-faults b [] = refl
now-faults b (e ∷ h) = now-faults (step b e.act) h ∙ step-faults b e.act

-- a proper history in two parts
pub proper-append : (b : Base) (h more : History) → Proper b h → Proper (now b h) more → Proper b (h ++ more)
proper-append b [] more first second = second
proper-append b (e ∷ h) more first second = (first.0, first.1, proper-append (step b e.act) h more first.2 second)

pub proper-front : (b : Base) (h more : History) → Proper b (h ++ more) → Proper b h
proper-front b [] [] p = p
proper-front b [] (e ∷ more) p = p.0
proper-front b (e ∷ h) more p = (p.0, p.1, proper-front (step b e.act) h more p.2)

pub proper-rest : (b : Base) (h more : History) → Proper b (h ++ more) → Proper (now b h) more
proper-rest b [] more p = p
proper-rest b (e ∷ h) more p = proper-rest (step b e.act) h more p.2

-- at its end a proper history has used no more than it may
pub proper-room : (b : Base) (h : History) → Proper b h → HasRoom (used_rows b h) (used_sectors b h)
proper-room b [] p = p
proper-room b (e ∷ h) p = proper-room (step b e.act) h p.2

-- one entry more
pub proper-entry : (b : Base) (h : History) (number : ℕ) (act : Act) → Proper b h → Allowed (now b h) act
    → HasRoom (step (now b h) act).rows (step (now b h) act).filled → Proper b (h ++ entry number act ∷ [])
proper-entry b h number act p may room = proper-append b h (entry number act ∷ []) p (proper-room b h p, may, room)

pub proper-last : (b : Base) (h : History) (number : ℕ) (act : Act) → Proper b (h ++ entry number act ∷ []) → Allowed (now b h) act
proper-last b h number act p = (proper-rest b h (entry number act ∷ []) p).1

-- with no Freeze all entries are since the last one
since_all : (h : History) → has_freeze h ≡ false → since_freeze h ≡ h
since_all [] none = refl
since_all (e ∷ es) none = since_all_by (freezes e.act) refl none
  where
    since_all_by : (b : Bool) → freezes e.act ≡ b → (b || has_freeze es) ≡ false → since_freeze (e ∷ es) ≡ e ∷ es
    since_all_by true is none = absurd (cc)
    since_all_by false is none = rw (none, is) refl

-- the top after an act that freezes, and after one that does not
step_top-freezing : (b : Base) (act : Act) → freezes act ≡ true → (step b act).top ≡ holes b.sectors
step_top-freezing b (Read at count) is = absurd (cc)
step_top-freezing b (Write at bytes) is = absurd (cc)
step_top-freezing b (Zero at count) is = absurd (cc)
step_top-freezing b Flush is = absurd (cc)
step_top-freezing b (Freeze uuid) is = refl
step_top-freezing b (Seal uuid) is = absurd (cc)
step_top-freezing b (Grow sectors) is = absurd (cc)
step_top-freezing b (Fault asked) is = absurd (cc)

step_top : (b : Base) (act : Act) → freezes act ≡ false → (step b act).top ≡ written b.top act
step_top b (Read at count) is = refl
step_top b (Write at bytes) is = refl
step_top b (Zero at count) is = refl
step_top b Flush is = refl
step_top b (Freeze uuid) is = absurd (cc)
step_top b (Seal uuid) is = refl
step_top b (Grow sectors) is = refl
step_top b (Fault asked) is = refl

abbrev written_along : List Cell → History → List Cell
written_along sheet history = fold (λ s e. written s e.act) sheet history

pub top_since-freeze : (b : Base) (h : History) → TopIsSinceFreeze b h
top_since-freeze b [] = refl
top_since-freeze b (e ∷ es) = by_cases (has_freeze es) (freezes e.act) refl refl (top_since-freeze (step b e.act) es)
  where
    by_cases : (h f : Bool) → has_freeze es ≡ h → freezes e.act ≡ f → TopIsSinceFreeze (step b e.act) es → TopIsSinceFreeze b (e ∷ es)
    by_cases true true some is next = rw (some, is) (rw (some, step-sectors b e.act) at next)
    by_cases true false some is next = rw (some, is) (rw (some, step-sectors b e.act) at next)
    by_cases false true some is next = rw (some, is) (rw (some, since_all es some, step_top-freezing b e.act is) at next)
    by_cases false false some is next = rw (some, is) (rw (some, since_all es some, step_top b e.act is) at next)

-- what an act takes in a top, and what a Freeze gives back
step_rows : (b : Base) (act : Act) → freezes act ≡ false → ((step b act).rows ≡ b.rows + rows_taken act) × ((step b act).filled ≡ b.filled + sectors_taken act)
step_rows b (Read at count) is = (sym (add-zero b.rows), sym (add-zero b.filled))
step_rows b (Write at bytes) is = (refl, refl)
step_rows b (Zero at count) is = (refl, sym (add-zero b.filled))
step_rows b Flush is = (sym (add-zero b.rows), sym (add-zero b.filled))
step_rows b (Freeze uuid) is = absurd (cc)
step_rows b (Seal uuid) is = (sym (add-zero b.rows), sym (add-zero b.filled))
step_rows b (Grow sectors) is = (sym (add-zero b.rows), sym (add-zero b.filled))
step_rows b (Fault asked) is = (sym (add-zero b.rows), sym (add-zero b.filled))

step_rows-freezing : (b : Base) (act : Act) → freezes act ≡ true → ((step b act).rows ≡ 0) × ((step b act).filled ≡ 0)
step_rows-freezing b (Read at count) is = absurd (cc)
step_rows-freezing b (Write at bytes) is = absurd (cc)
step_rows-freezing b (Zero at count) is = absurd (cc)
step_rows-freezing b Flush is = absurd (cc)
step_rows-freezing b (Freeze uuid) is = (refl, refl)
step_rows-freezing b (Seal uuid) is = absurd (cc)
step_rows-freezing b (Grow sectors) is = absurd (cc)
step_rows-freezing b (Fault asked) is = absurd (cc)

pub used-sum : (b : Base) (h : History) → UsedIsSum b h
used-sum b [] = record { rows = sym (add-zero b.rows); sectors = sym (add-zero b.filled) }
used-sum b (e ∷ es) = by_cases (has_freeze es) (freezes e.act) refl refl (used-sum (step b e.act) es)
  where
    by_cases : (h f : Bool) → has_freeze es ≡ h → freezes e.act ≡ f → UsedIsSum (step b e.act) es → UsedIsSum b (e ∷ es)
    by_cases true true some is next = record { rows = rw (some, is) (rw some at next.rows); sectors = rw (some, is) (rw some at next.sectors) }
    by_cases true false some is next = record { rows = rw (some, is) (rw some at next.rows); sectors = rw (some, is) (rw some at next.sectors) }
    by_cases false true some is next = record {
      rows = rw (some, is) (rw (some, since_all es some, (step_rows-freezing b e.act is).0) at next.rows);
      sectors = rw (some, is) (rw (some, since_all es some, (step_rows-freezing b e.act is).1) at next.sectors);
    }
    by_cases false false some is next = record {
      rows = rw (some, is) (rw (some, since_all es some, (step_rows b e.act is).0) at next.rows ∙ (add_assoc b.rows (rows_taken e.act) _ ∙ ap (λ n. b.rows + n) (sym (sum_by-cons (λ (x : Entry Act). rows_taken x.act) e es))));
      sectors = rw (some, is) (rw (some, since_all es some, (step_rows b e.act is).1) at next.sectors ∙ (add_assoc b.filled (sectors_taken e.act) _ ∙ ap (λ n. b.filled + n) (sym (sum_by-cons (λ (x : Entry Act). sectors_taken x.act) e es))));
    }

-- a Freeze takes the top as it stands
abbrev frozen_as : List ℕ → List Cell → Option Frozen
frozen_as uuid sheet = Some (record { uuid = uuid; sheet = sheet })

pub freeze-takes_top : (b : Base) (h : History) → FreezeTakesTop b h
freeze-takes_top b h number uuid =
    ap (λ (v : Base). v.frozen) (now-entry b h number (Freeze uuid))
    ∙ ap (λ (l : History). frozen_as uuid (now b l).top) (sym (take-append_seam h (entry number (Freeze uuid) ∷ [])))

-- what a Seal finds frozen, and the file that it adds
pending-frozen : (frozen : Option Frozen) (uuid : List ℕ) → pending_of frozen ≡ Some uuid
    → (sheet : List Cell) × (frozen ≡ frozen_as uuid sheet)
pending-frozen None uuid is = absurd (cc)
pending-frozen (Some f) uuid is = (f.sheet, ap (λ u. frozen_as u f.sheet) (let same : f.uuid ≡ uuid = cc in same))

pub seal-adds_file : (b : Base) (h : History) → SealAddsFile b h
seal-adds_file b h = record {
  seal = λ number uuid is.
      let found : (sheet : List Cell) × (frozen b h ≡ frozen_as uuid sheet) = pending-frozen (now b h).frozen uuid is in (
        found.0,
        found.1,
        ap (λ (v : Base). v.done) (now-entry b h number (Seal uuid))
            ∙ (ap (λ f. (now b h).done ++ sealed_over ((now b h).lowers ++ (now b h).done) f) found.1
            ∙ ap (λ l. (now b h).done ++ file_of uuid (top_uuid (l ++ (now b h).done)) (top_size (length found.0) (l ++ (now b h).done)) found.0 ∷ []) (now-lowers b h)),
      );
  other = λ number act. other_by number act;
}
  where
    others : (number : ℕ) (act : Act) → ((step (now b h) act).done ≡ (now b h).done) → committed b (h ++ entry number act ∷ []) ≡ committed b h
    others number act same = ap (λ (v : Base). v.done) (now-entry b h number act) ∙ same

    other_by : (number : ℕ) (act : Act) → (committed b (h ++ entry number act ∷ []) ≡ committed b h) ⊎ ((uuid : List ℕ) × (act ≡ Seal uuid))
    other_by number (Read at count) = inl (others number (Read at count) refl)
    other_by number (Write at bytes) = inl (others number (Write at bytes) refl)
    other_by number (Zero at count) = inl (others number (Zero at count) refl)
    other_by number Flush = inl (others number Flush refl)
    other_by number (Freeze uuid) = inl (others number (Freeze uuid) refl)
    other_by number (Seal uuid) = inr (uuid, refl)
    other_by number (Grow sectors) = inl (others number (Grow sectors) refl)
    other_by number (Fault asked) = inl (others number (Fault asked) refl)

pub frozen-stays : (b : Base) (h : History) → FrozenStays b h
frozen-stays b h = record {
  seal = λ number uuid. ap (λ (v : Base). v.frozen) (now-entry b h number (Seal uuid));
  other = λ number act is. ap (λ (v : Base). v.frozen) (now-entry b h number act) ∙ stays act is;
}
  where
    stays : (act : Act) → moves_layers act ≡ false → (step (now b h) act).frozen ≡ (now b h).frozen
    stays (Read at count) is = refl
    stays (Write at bytes) is = refl
    stays (Zero at count) is = refl
    stays Flush is = refl
    stays (Freeze uuid) is = absurd (cc)
    stays (Seal uuid) is = absurd (cc)
    stays (Grow sectors) is = refl
    stays (Fault asked) is = refl

-- the place of what is kept
abbrev IsUnkept : Entry Act → Type 0
IsUnkept e = keeps e.act ≡ false

abbrev Unkept : History → Type 0
Unkept h = All IsUnkept h

kept_within : (n : ℕ) (keeping : Bool) (len : ℕ) → n ≤ len → kept_from n keeping ≤ suc len
kept_within zero true len le = omega arith
kept_within zero false len le = omega arith
kept_within (suc n) keeping len le = omega (arith, le)

pub kept-within : (h : History) → kept h ≤ length h
kept-within [] = omega arith
kept-within (e ∷ es) = kept_within (kept es) (keeps e.act) (length es) (kept-within es)

pub kept-none : (h : History) → Unkept h → kept h ≡ 0
kept-none [] none = refl
kept-none (e ∷ es) none =
    let last : kept es ≡ 0 = kept-none es (All-tail IsUnkept e es none) in
    let this : keeps e.act ≡ false = All-head IsUnkept e es none in
    rw (last, this) refl

none_kept : (h : History) → kept h ≡ 0 → Unkept h
none_kept [] is = All-nil IsUnkept
none_kept (e ∷ es) is = by_cases (kept es) (keeps e.act) refl refl is (none_kept es)
  where
    by_cases : (n : ℕ) (k : Bool) → kept es ≡ n → keeps e.act ≡ k → kept_from n k ≡ 0 → (kept es ≡ 0 → Unkept es) → Unkept (e ∷ es)
    by_cases zero true n_is k_is zero_is next = absurd (omega (arith, zero_is))
    by_cases zero false n_is k_is zero_is next = All-cons IsUnkept e es k_is (next n_is)
    by_cases (suc n) k n_is k_is zero_is next = absurd (omega (arith, zero_is))

-- what nothing keeps adds nothing, and what keeps moves the place to the end
pub kept-append : (h more : History) → Unkept more → kept (h ++ more) ≡ kept h
kept-append [] more none = kept-none more none
kept-append (e ∷ es) more none = ap (λ n. kept_from n (keeps e.act)) (kept-append es more none)

pub kept-entry : (h : History) (number : ℕ) (act : Act) → keeps act ≡ true → kept (h ++ entry number act ∷ []) ≡ suc (length h)
kept-entry [] number act is = rw is refl
kept-entry (e ∷ es) number act is = ap (λ n. kept_from n (keeps e.act)) (kept-entry es number act is)

-- a beginning that reaches to the place has behind it nothing that keeps
reaches_unkept : (front rest : History) → kept (front ++ rest) ≤ length front → Unkept rest
reaches_unkept [] rest le = none_kept rest (omega (arith, le))
reaches_unkept (e ∷ front) rest le = reaches_unkept front rest (smaller (kept (front ++ rest)) (keeps e.act) (length front) le)
  where
    smaller : (n : ℕ) (k : Bool) (len : ℕ) → kept_from n k ≤ suc len → n ≤ len
    smaller zero k len le' = omega arith
    smaller (suc n) k len le' = omega (arith, le')

pub kept-reaches : (h front : History) → KeptReaches h front
kept-reaches h front = (to, from)
  where
    to : Kept h front → StartsWith h front × (kept h ≤ length front)
    to k = (
      record { rest = k.rest; is = k.splits },
      subst (λ n. n ≤ length front) (sym (ap kept k.splits ∙ kept-append front k.rest k.unkept)) (kept-within front),
    )

    from : StartsWith h front × (kept h ≤ length front) → Kept h front
    from p = record { rest = p.0.rest; splits = p.0.is; unkept = reaches_unkept front p.0.rest (subst (λ (l : History). kept l ≤ length front) p.0.is p.1) }

-- the entry before the place keeps
abbrev IsLeast : History → Type 0
IsLeast h = (kept h ≡ 0)
    ⊎ ((front : History) × (e : Entry Act) × (rest : History) × (h ≡ front ++ e ∷ rest) × (keeps e.act ≡ true) × (kept h ≡ suc (length front)))

kept-least : (h : History) → IsLeast h
kept-least [] = inl refl
kept-least (e ∷ es) = by_cases (kept es) (keeps e.act) refl refl (kept-least es)
  where
    by_cases : (n : ℕ) (k : Bool) → kept es ≡ n → keeps e.act ≡ k → IsLeast es → IsLeast (e ∷ es)
    by_cases zero true n_is k_is least = inr ([], e, es, refl, k_is, rw (n_is, k_is) refl)
    by_cases zero false n_is k_is least = inl (rw (n_is, k_is) refl)
    by_cases (suc n) k n_is k_is least =
        elim least [
          | inl none ↦ absurd (omega (arith, none, n_is))
          | inr found ↦ inr (
            e ∷ found.0,
            found.1,
            found.2,
            ap (λ l. e ∷ l) found.3,
            found.4,
            ap (λ m. kept_from m (keeps e.act)) n_is ∙ ap suc (sym n_is ∙ found.5),
          )
        ]

pub kept-is_place : (h : History) → KeptIsPlace h
kept-is_place h = record {
  within = kept-within h;
  unkept = reaches_unkept (take (kept h) h) (drop (kept h) h) (rw (take-append-drop (kept h) h, length-take (kept h) h) (omega (arith, kept-within h)));
  keeping = λ front e rest is keeping. subst (λ (l : History). suc (length front) ≤ kept l) (sym is) (reaches front e rest keeping);
  least = kept-least h;
}
  where
    more : (n : ℕ) (k : Bool) (m : ℕ) → suc m ≤ n → suc (suc m) ≤ kept_from n k
    more zero k m le = absurd (omega (arith, le))
    more (suc n) k m le = omega (arith, le)

    keeping_here : (n : ℕ) → 1 ≤ kept_from n true
    keeping_here zero = omega arith
    keeping_here (suc n) = omega arith

    reaches : (front : History) (e : Entry Act) (rest : History) → keeps e.act ≡ true → suc (length front) ≤ kept (front ++ e ∷ rest)
    reaches [] e rest keeping = rw keeping (keeping_here (kept rest))
    reaches (x ∷ front) e rest keeping = more (kept (front ++ e ∷ rest)) (keeps x.act) (length front) (reaches front e rest keeping)

-- the sheets of layers, and of a frozen sheet
pub layer_fits : (low n : ℕ) (files : List (List ℕ)) → All IsLayerFile files → AreRising low n (map size_in files) → All (FitsIn n) (map sheet_in files)
layer_fits low n [] layers rising = All-nil (FitsIn n)
layer_fits low n (file ∷ files) layers rising =
    let here : IsLayerFile file = All-head IsLayerFile file files layers in
    let sheet : List Cell = here.1.sheet in
    let size : length sheet ≡ size_in file = (IsSheet-layer file here.0 sheet here.1.layer).count ∙ sym (size_in-layer file here.0 sheet here.1.layer) in
    let fits : length sheet ≤ n = omega (arith, size, rising-low (size_in file) n (map size_in files) rising.1) in
    All-cons (FitsIn n) (sheet_in file) (map sheet_in files) (subst (FitsIn n) (sym (sheet_in-layer file here.0 sheet here.1.layer)) fits)
    (layer_fits (size_in file) n files (All-tail IsLayerFile file files layers) rising.1)

layer_cells : (files : List (List ℕ)) → All IsLayerFile files → All AreCells (map sheet_in files)
layer_cells [] layers = All-nil AreCells
layer_cells (file ∷ files) layers =
    let here : IsLayerFile file = All-head IsLayerFile file files layers in
    All-cons AreCells (sheet_in file) (map sheet_in files)
    (subst AreCells (sym (sheet_in-layer file here.0 here.1.sheet here.1.layer)) (IsSheet-layer file here.0 here.1.sheet here.1.layer).cells)
    (layer_cells files (All-tail IsLayerFile file files layers))

frozen_fits : (n : ℕ) (frozen : Option Frozen) → IfSome frozen (IsFrozen n) → All (FitsIn n) (sheet_list frozen)
frozen_fits n None is = All-nil (FitsIn n)
frozen_fits n (Some f) is = All-cons (FitsIn n) f.sheet [] (omega (arith, is.sheet_is.count)) (All-nil (FitsIn n))

frozen_cells : (n : ℕ) (frozen : Option Frozen) → IfSome frozen (IsFrozen n) → All AreCells (sheet_list frozen)
frozen_cells n None is = All-nil AreCells
frozen_cells n (Some f) is = All-cons AreCells f.sheet [] is.sheet_is.cells (All-nil AreCells)

-- what lies under the top
under : Base → List (List Cell)
under b = map sheet_in (b.lowers ++ b.done) ++ sheet_list b.frozen

under_fits : (b : Base) → IsBase b → All (FitsIn b.sectors) (under b)
unfolding under
under_fits b base =
    All-append (FitsIn b.sectors) (map sheet_in (b.lowers ++ b.done)) (sheet_list b.frozen)
    (layer_fits 0 b.sectors (b.lowers ++ b.done) base.layers base.rising) (frozen_fits b.sectors b.frozen base.frozen_is)

ground : Base → List (List ℕ)
ground b = flat b.sectors (under b)

-- the image is that, painted with the top
sheets-under : (b : Base) → sheets_of b ≡ under b ++ b.top ∷ []
unfolding under
sheets-under b = sym (append_assoc (map sheet_in (b.lowers ++ b.done)) (sheet_list b.frozen) (b.top ∷ []))

sheets_fit : (b : Base) → IsBase b → All (FitsIn b.sectors) (under b ++ b.top ∷ [])
sheets_fit b base =
    All-append (FitsIn b.sectors) (under b) (b.top ∷ []) (under_fits b base)
    (All-cons (FitsIn b.sectors) b.top [] (omega (arith, base.top_is.count)) (All-nil (FitsIn b.sectors)))

image-top : (b : Base) → IsBase b → image_of b ≡ paint (ground b) b.top
unfolding ground
image-top b base =
    ap (flat b.sectors) (sheets-under b)
    ∙ (flat-over b.sectors (under b ++ b.top ∷ []) (sheets_fit b base)
    ∙ (fold-append paint (replicate b.sectors zero_sector) (under b) (b.top ∷ [])
    ∙ ap (λ (i : List (List ℕ)). paint i b.top) (sym (flat-over b.sectors (under b) (under_fits b base)))))

-- with nothing frozen it is the layers under the top
pub image-over : (b : Base) → IsBase b → b.frozen ≡ None → image_of b ≡ paint (flat b.sectors (map sheet_in (b.lowers ++ b.done))) b.top
unfolding ground under
image-over b base none =
    let layers : List (List Cell) = map sheet_in (b.lowers ++ b.done) in
    image-top b base
    ∙ ap (λ (l : List (List Cell)). paint (flat b.sectors l) b.top) (ap (λ (o : Option Frozen). layers ++ sheet_list o) none ∙ append-nil layers)

length-ground : (b : Base) → IsBase b → length (ground b) ≡ b.sectors
unfolding ground
length-ground b base = length-flat b.sectors (under b) (under_fits b base)

-- cells put into the top are sectors put into the image
image-put_at : (b : Base) (at : ℕ) (new : List Cell) (out : List (List ℕ)) → IsBase b
    → ((x : List (List ℕ)) → length x ≡ length new → paint x new ≡ out) → length out ≡ length new → at + length new ≤ b.sectors
    → paint (ground b) (put_at at new b.top) ≡ put_at at out (image_of b)
image-put_at b at new out base makes same fits =
    paint-put_at at new out (ground b) b.top makes same (base.top_is.count ∙ sym (length-ground b base)) (subst (λ n. at + length new ≤ n) (sym (length-ground b base)) fits)
    ∙ ap (λ r. put_at at out r) (sym (image-top b base))

-- a file in place of a sheet that it has
sheets_sealed : (lowers done : List (List ℕ)) (file : List ℕ) (sheet top : List Cell) → sheet_in file ≡ sheet
    → map sheet_in (lowers ++ (done ++ file ∷ [])) ++ top ∷ [] ≡ map sheet_in (lowers ++ done) ++ (sheet ∷ top ∷ [])
sheets_sealed lowers done file sheet top back =
    ap (λ l. map sheet_in l ++ top ∷ []) (sym (append_assoc lowers done (file ∷ [])))
    ∙ (ap (λ l. l ++ top ∷ []) (map-append sheet_in (lowers ++ done) (file ∷ []))
    ∙ (append_assoc (map sheet_in (lowers ++ done)) (sheet_in file ∷ []) (top ∷ [])
    ∙ ap (λ s. map sheet_in (lowers ++ done) ++ (s ∷ top ∷ [])) back))

-- a sheet in which cells are replaced is a sheet
IsSheet-put_at : (n at : ℕ) (new sheet : List Cell) → IsSheet n sheet → All IsCell new → at + length new ≤ n → IsSheet n (put_at at new sheet)
unfolding put_at
IsSheet-put_at n at new sheet is cells fits = record {
  some = is.some;
  few = is.few;
  count = length-put_at at new sheet (subst (λ k. at + length new ≤ k) (sym is.count) fits) ∙ is.count;
  cells = All-append IsCell (take at sheet) (new ++ drop (at + length new) sheet) (All-take IsCell at sheet is.cells)
      (All-append IsCell new (drop (at + length new) sheet) cells (All-drop IsCell (at + length new) sheet is.cells));
}

pub base-step : (b : Base) (act : Act) → IsBase b → Allowed b act → SealsLayer b → IsBase (step b act)
base-step b (Read at count) base may back = base
base-step b (Write at bytes) base may back = record {
  frozen_is = base.frozen_is;
  layers = base.layers;
  rising = base.rising;
  top_is = IsSheet-put_at b.sectors at (map (λ s. Filled s) (sectors_in bytes)) b.top base.top_is
      (All-map IsCell (λ s. Filled s) (sectors_in bytes) (whole-sectors_in bytes))
      (rw (length-map (sectors_in bytes) (λ s. Filled s), length-sectors_in bytes) may.within);
}
base-step b (Zero at count) base may back = record {
  frozen_is = base.frozen_is;
  layers = base.layers;
  rising = base.rising;
  top_is = IsSheet-put_at b.sectors at (replicate count sheets.Zero) b.top base.top_is
      (All-replicate IsCell count sheets.Zero tt) (rw length-replicate may);
}
base-step b Flush base may back = base
base-step b (Freeze uuid) base may back = record {
  top_is = record { some = base.top_is.some; few = base.top_is.few; count = length-replicate b.sectors Hole; cells = All-replicate IsCell b.sectors Hole tt };
  frozen_is = record { long = may.long; named = may.named; sheet_is = base.top_is };
  layers = base.layers;
  rising = base.rising;
}
base-step b (Seal uuid) base may back = sealed (pending-frozen b.frozen uuid may)
  where
    sealed : ((sheet : List Cell) × (b.frozen ≡ frozen_as uuid sheet)) → IsBase (step b (Seal uuid))
    sealed found =
        let f : Frozen = record { uuid = uuid; sheet = found.0 } in
        let file : List ℕ = sealed_file b f in
        let is = back f found.1 in
        let joined : (b.lowers ++ b.done) ++ file ∷ [] ≡ b.lowers ++ (b.done ++ file ∷ []) = append_assoc b.lowers b.done (file ∷ []) in
        record {
          top_is = base.top_is;
          frozen_is = tt;
          layers = subst (λ o. All IsLayerFile (b.lowers ++ (b.done ++ sealed_over (b.lowers ++ b.done) o))) (sym found.1)
              (subst (All IsLayerFile) joined
              (All-append IsLayerFile (b.lowers ++ b.done) (file ∷ []) base.layers
              (All-cons IsLayerFile file [] (is.head, record { sheet = found.0; layer = is.layer }) (All-nil IsLayerFile))));
          rising = subst (λ o. AreRising 0 b.sectors (map size_in (b.lowers ++ (b.done ++ sealed_over (b.lowers ++ b.done) o)))) (sym found.1)
              (subst (λ files. AreRising 0 b.sectors (map size_in files)) joined
              (rising-push 0 b.sectors (b.lowers ++ b.done) file (size_in-IsLayer b.sectors uuid found.0 file is) base.rising));
        }
base-step b (Grow sectors) base may back = record {
  top_is = record {
    some = omega (arith, base.top_is.some, may.more);
    few = may.few;
    count = length-append b.top (holes (sectors - length b.top))
        ∙ (let e : length b.top + length (holes (sectors - length b.top)) ≡ sectors = omega (arith, length-replicate (sectors - length b.top) Hole, base.top_is.count, may.more) in e);
    cells = All-append IsCell b.top (holes (sectors - length b.top)) base.top_is.cells (All-replicate IsCell (sectors - length b.top) Hole tt);
  };
  frozen_is = subst (λ o. IfSome o (IsFrozen sectors)) (sym may.free) tt;
  layers = base.layers;
  rising = rising-more 0 b.sectors sectors (map size_in (b.lowers ++ b.done)) (omega (arith, may.more)) base.rising;
}
base-step b (Fault asked) base may back = base

-- what a base reads as is an image
pub base-is_image : (b : Base) → BaseIsImage b
base-is_image b base = record {
  some = base.top_is.some;
  few = base.top_is.few;
  count = ap length (image-top b base) ∙ (length-paint (ground b) b.top (omega (arith, length-ground b base, base.top_is.count)) ∙ length-ground b base);
  sectors = AreSectors-flat b.sectors (sheets_of b) all;
}
  where
    all : All AreCells (sheets_of b)
    all = All-append AreCells (map sheet_in (b.lowers ++ b.done)) (sheet_list b.frozen ++ b.top ∷ []) (layer_cells (b.lowers ++ b.done) base.layers)
        (All-append AreCells (sheet_list b.frozen) (b.top ∷ []) (frozen_cells b.sectors b.frozen base.frozen_is)
        (All-cons AreCells b.top [] base.top_is.cells (All-nil AreCells)))

-- an act changes the image of what it makes
pub image-step : (b : Base) (act : Act) → IsBase b → Allowed b act → SealsLayer b → image_of (step b act) ≡ changed (image_of b) act
unfolding ground under
image-step b (Read at count) base may back = refl
image-step b (Write at bytes) base may back =
    image-top (step b (Write at bytes)) (base-step b (Write at bytes) base may back)
    ∙ image-put_at b at (map Filled (sectors_in bytes)) (sectors_in bytes) base
    (λ x same. paint-filled x (sectors_in bytes) (same ∙ length-map (sectors_in bytes) (λ s. Filled s)))
    (sym (length-map (sectors_in bytes) (λ s. Filled s)))
    (rw (length-map (sectors_in bytes) (λ s. Filled s), length-sectors_in bytes) may.within)
image-step b (Zero at count) base may back =
    image-top (step b (Zero at count)) (base-step b (Zero at count) base may back)
    ∙ image-put_at b at (replicate count sheets.Zero) (replicate count zero_sector) base
    (λ x same. paint-zeros x count (same ∙ length-replicate count sheets.Zero))
    (length-replicate count zero_sector ∙ sym (length-replicate count sheets.Zero))
    (rw length-replicate may)
image-step b Flush base may back = refl
image-step b (Freeze uuid) base may back =
    let frozen : Base = step b (Freeze uuid) in
    let good : IsBase frozen = base-step b (Freeze uuid) base may back in
    image-top frozen good
    ∙ (paint-holes (ground frozen) b.sectors (omega (arith, length-ground frozen good))
    ∙ ap (flat b.sectors) (ap (λ f. map sheet_in (b.lowers ++ b.done) ++ (sheet_list f ++ b.top ∷ [])) (sym may.free)))
image-step b (Seal uuid) base may back = sealed (pending-frozen b.frozen uuid may)
  where
    sealed : ((sheet : List Cell) × (b.frozen ≡ frozen_as uuid sheet)) → image_of (step b (Seal uuid)) ≡ image_of b
    sealed found =
        ap (λ f. flat b.sectors (map sheet_in (b.lowers ++ (b.done ++ sealed_over (b.lowers ++ b.done) f)) ++ b.top ∷ [])) found.1
        ∙ (ap (flat b.sectors) (sheets_sealed b.lowers b.done (sealed_file b (record { uuid = uuid; sheet = found.0 })) found.0 b.top
        (sheet_in-IsLayer b.sectors uuid found.0 (sealed_file b (record { uuid = uuid; sheet = found.0 })) (back (record { uuid = uuid; sheet = found.0 }) found.1)))
        ∙ ap (λ f. flat b.sectors (map sheet_in (b.lowers ++ b.done) ++ (sheet_list f ++ b.top ∷ []))) (sym found.1))
image-step b (Grow sectors) base may back =
    let next : Base = step b (Grow sectors) in
    let good : IsBase next = base-step b (Grow sectors) base may back in
    let old : List (List ℕ) = ground b in
    let size : length old ≡ b.sectors = length-ground b base in
    let zeros : List (List ℕ) = replicate (sectors - length old) zero_sector in
    let more : ℕ = sectors - length b.top in
    image-top next good
    ∙ (ap (λ (i : List (List ℕ)). paint i (with_holes sectors b.top)) (flat-lengthened b.sectors sectors (under b) (under_fits b base) (omega (arith, may.more)))
    ∙ (paint-append old zeros b.top (holes more) (size ∙ sym base.top_is.count)
    ∙ (ap (λ (r : List (List ℕ)). paint old b.top ++ r) (paint-holes zeros more (omega (arith, length-replicate (sectors - length old) zero_sector, size, base.top_is.count)))
    ∙ (ap (λ (i : List (List ℕ)). i ++ zeros) (sym (image-top b base))
    ∙ ap (λ (n : ℕ). image_of b ++ replicate (sectors - n) zero_sector) (size ∙ sym (base-is_image b base).count)))))
image-step b (Fault asked) base may back = refl

pub base-stays : (b : Base) (h : History) → BaseStays b h
base-stays b [] base few p = (base, few)
base-stays b (e ∷ h) base few p =
    base-stays (step b e.act) h (base-step b e.act base p.1 (seals-layer b base few)) (few-step b e.act few p.0) p.2

-- the image after a history is the image of what the history made
pub after-is_image : (b : Base) (h : History) → AfterIsImage b h
after-is_image b [] base few p = refl
after-is_image b (e ∷ h) base few p =
    let back : SealsLayer b = seals-layer b base few in
    after-is_image (step b e.act) h (base-step b e.act base p.1 back) (few-step b e.act few p.0) p.2
    ∙ ap (λ image. fold (λ i (x : Entry Act). changed i x.act) image h) (image-step b e.act base p.1 back)

-- the failed steps of a history in two parts, and one entry longer
pub fault_count-append : (h more : History) → fault_count (h ++ more) ≡ fault_count h + fault_count more
fault_count-append h more = sum_by-append (λ (e : Entry Act). cond (is_fault e.act) 1 0) h more
