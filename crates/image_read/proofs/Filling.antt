-- Gaps that are read outside of the lock are the image at the plan's place.
use Rattle.std.proofs.Common.{◌≡◌, ℕ, ◌+◌, ◌*◌, ◌^◌, ◌<◌, ◌≤◌, ◌&&◌, ◌⊎◌, Bool, IsTrue, true, false, List, [], ◌∷◌, ◌++◌, length, take, drop, All, Option, Some, None, Result, Ok, Err, MatchResult, IsErrOf, IfErr, OnOk, is_some, refl, sym, ap, subst, ◌∙◌, arith, inl, inr, append_assoc, length-append}
use Rattle.std.specs.Prelude.{slice_index_or, IfSome}
use Rattle.std.specs.Option.{ForSome}
use Rattle.std.proofs.lemmas.List.{get_or-take, get_or-drop, length-drop, length-take-le, take-append-le, take-append-drop, take_all}
use Rattle.std.proofs.lemmas.List.Elements.{All-take, All-drop}
use Rattle.sector_extent.specs.declared.extent.Extent.{Extent}
use Rattle.flat_image.specs.declared.base.Base.{Base}
use Rattle.flat_image.specs.Sheets.{Cell, Hole, Zero, Filled, IsSector}
use Rattle.flat_image.specs.RowCells.{sector_at}
use Rattle.flat_image.specs.History.{History, now, size, after, reply, committed}
use Rattle.flat_image.specs.declared.act.Act.{Act}
use Rattle.flat_image.specs.declared.act.Act.TheVariants.{Read, Flush, Fault}
use Rattle.flat_image.specs.declared.port_fault.PortFault.{PortFault}
use Rattle.flat_image.specs.declared.port_fault.PortFault.TheVariants.{Worn, Full, Memory, Failed}
use Rattle.flat_image.specs.declared.act.Asked.TheVariants.{Nothing}
use Rattle.flat_image.specs.Entries.{entry, StartsWith}
use Rattle.flat_image.specs.Ports.{PortState, Notes, Reads, ReadFails, Makes, ChangeFails, Flushes, FlushFails, ChargesPort}
use Rattle.flat_image.proofs.HistoryLaws.{now-entry}
use Rattle.flat_image.proofs.PortLaws.{Notes-trans}
use Rattle.merged_index.specs.Cells.{cells_of}
use Rattle.top_writer.specs.Gaps.{AreGaps}
use Rattle.image_core.specs.Pieces.{SnapshotView}
use Rattle.image_core.specs.Planning.{IsPlanOf, ReadsBelow}
use Rattle.image_core.specs.Upper.{upper, IsGap}
use Rattle.image_core.specs.Whole.{sectors_by, AreFilled, AreOnShelf, LiesIn}
use Rattle.image_core.proofs.FilledSectors.{AreGapsFilled, gaps-filled, gaps-lie, bytes-are}
use Rattle.shared_image.specs.Turns.{Plans, PlanFails}
use Rattle.shared_image.specs.Commits.{NotesNone, PeekFails}
use Rattle.shared_image.proofs.Staying.{starts-then, committed-stays}
use Rattle.image_core.specs.Sources.{files_told}
use Rattle.image_read.specs.Reading.{StillThere, ReadsOn, FailsOn}

-- a cell is a hole or not
hole-or : (cell : Cell) → (cell ≡ Hole) ⊎ ¬ (cell ≡ Hole)
hole-or Hole = inl refl
hole-or Zero = inr (λ e. cc)
hole-or (Filled sector) = inr (λ e. cc)

-- what the tops had, with the gaps filled from the layers' files, is the image's part
pub planned-reply : (base : Base) (history : History) (s : SnapshotView) (at count : ℕ) (old mid new : List ℕ) (gaps : List Extent)
    → IsPlanOf (size base history) base history at count old mid → AreGaps (IsGap (now base history)) at (at + count) gaps → ReadsBelow base history s
    → AreFilled (sectors_by (base.lowers ++ committed base history) (cells_of s.index)) at gaps mid new
    → at + count ≤ size base history → length new ≡ 512 * count → new ≡ reply base history at count
planned-reply base history s at count old mid new gaps plan are below filled within long =
    let image : List (List ℕ) = after base history in
    let b = now base history in
    let said : ℕ → List ℕ = sectors_by (base.lowers ++ committed base history) (cells_of s.index) in
    let done : AreGapsFilled said (IsGap b) at at (at + count) mid new = gaps-filled said (IsGap b) at at (at + count) gaps mid new are filled in
    let sector : (k : ℕ) → k < count → sector_at new k ≡ slice_index_or image (at + k) [] =
    λ k inside. elim (hole-or (slice_index_or (upper b) (at + k) Hole)) [
      | inl hole ↦ done.holes k (omega arith) (omega (arith, inside)) hole ∙ below.sectors (at + k) (omega (arith, inside, within)) hole
      | inr some ↦ done.others k (omega arith) (omega (arith, inside)) some ∙ plan.read k inside some
    ] in
    let part : List (List ℕ) = take count (drop at image) in
    let part_long : length part ≡ count = length-take-le count (drop at image) (omega (arith, length-drop at image, below.image.count, within)) in
    bytes-are part new (All-take IsSector count (drop at image) (All-drop IsSector at image below.image.sectors)) (omega (arith, long, part_long))
    (λ k inside. sector k (omega (arith, inside, part_long)) ∙ sym (get_or-take count (drop at image) k [] (omega (arith, inside, part_long)) ∙ get_or-drop at image k []))

-- ---- what the port is after a plan, and reads of layers behind it

module _ (old mid new : PortState) where
  -- the layers that were committed at the plan's place are those at the end of what was seen by then
  done-there : (told : Bool) (e : Extent) (bytes out : List ℕ) (gaps : List Extent) (s : SnapshotView) → (plan : Plans told old mid e bytes out gaps s)
      → committed mid.base mid.seen ≡ committed old.base (old.seen ++ plan.before)
  done-there told e bytes out gaps s plan =
      let h : History = old.seen ++ plan.before in
      ap (λ (p : PortState). committed p.base mid.seen) plan.notes.is
      ∙ (ap (λ (l : History). committed old.base l) plan.seen
      ∙ ap (λ (b : Base). b.done) (now-entry old.base h old.number (Read e.at e.count)))

  -- the read is done, with bytes that are the image's where all is told
  reads-filled : (told : Bool) (e : Extent) (bytes out last : List ℕ) (gaps : List Extent) (s : SnapshotView) (done : List (List ℕ))
      → Plans told old mid e bytes out gaps s → ReadsOn mid new → length last ≡ 512 * e.count → done ≡ committed mid.base mid.seen
      → (IsTrue mid.tells → IsTrue told × AreFilled (sectors_by (mid.base.lowers ++ done) (cells_of s.index)) e.at gaps out last)
      → Reads old new e.at e.count last
  reads-filled told e bytes out last gaps s done plan on long there filled = record {
    notes = Notes-trans old mid new (Read e.at e.count ∷ []) [] plan.notes on.notes;
    before = plan.before;
    behind = on.notes.more;
    seen = ap (λ (p : PortState). p.seen) on.notes.is
        ∙ (ap (λ (l : History). l ++ on.notes.more) plan.seen
        ∙ append_assoc (old.seen ++ plan.before) (entry old.number (Read e.at e.count) ∷ []) on.notes.more);
    sectors = λ all.
        let h : History = old.seen ++ plan.before in
        let same : done ≡ committed old.base h = there ∙ done-there told e bytes out gaps s plan in
        let whole = filled (subst IsTrue (sym (ap (λ (p : PortState). p.tells) plan.notes.is)) all) in
        planned-reply old.base h s e.at e.count bytes out last gaps (plan.image whole.0) plan.gaps_are plan.below
        (subst (λ (files : List (List ℕ)). AreFilled (sectors_by (old.base.lowers ++ files) (cells_of s.index)) e.at gaps out last) same
        (subst (λ (b : Base). AreFilled (sectors_by (b.lowers ++ done) (cells_of s.index)) e.at gaps out last) (ap (λ (p : PortState). p.base) plan.notes.is) whole.1)) plan.within long;
  }

  -- a layer was not read
  reads-fail : (told : Bool) (e : Extent) (bytes out : List ℕ) (gaps : List Extent) (s : SnapshotView) (fault : PortFault)
      → Plans told old mid e bytes out gaps s → FailsOn mid new fault → ReadFails old new e.at e.count fault
  reads-fail told e bytes out gaps s Worn plan on = (on.0, inr (Notes-trans old mid new (Read e.at e.count ∷ []) [] plan.notes on.1.notes))
  reads-fail told e bytes out gaps s (Full rows sectors) plan on = on
  reads-fail told e bytes out gaps s Memory plan on = absurd on
  reads-fail told e bytes out gaps s Failed plan on =
      let before = plan.notes.later in
      let more = on.0 in (
        omega (arith, before, more),
        inr (elim on.1 [
          | inl none ↦ inl (Notes-trans old mid new (Read e.at e.count ∷ []) [] plan.notes none)
          | inr fault ↦ inr (Notes-trans old mid new (Read e.at e.count ∷ []) (Fault Nothing ∷ []) plan.notes fault)
        ]),
      )

  -- the count rises just where the read failed
  reads-charge : {T U : Type 0} (x : T) (y : U) → ChargesPort {T = T} old mid (Ok x) → ReadsOn mid new → ChargesPort {T = U} old new (Ok y)
  reads-charge x y c on = let same = on.calm in record {
    later = let less = c.later in omega (arith, less, same);
    failed = λ e. absurd (cc e);
    only = λ more. absurd (let never = c.only (omega (arith, more, same)) in cc never);
  }

  fails-charge : {T U : Type 0} (x : T) (fault : PortFault) → ChargesPort {T = T} old mid (Ok x) → FailsOn mid new fault → ChargesPort {T = U} old new (Err fault)
  fails-charge x Worn c on = let same = on.1.calm in record {
    later = let less = c.later in omega (arith, less, same);
    failed = λ e. absurd (cc e);
    only = λ more. absurd (let never = c.only (omega (arith, more, same)) in cc never);
  }
  fails-charge x (Full rows sectors) c on = absurd on
  fails-charge x Memory c on = absurd on
  fails-charge x Failed c on = let less = c.later in let more = on.0 in record {
    later = omega (arith, less, more);
    failed = λ e. omega (arith, less, more);
    only = λ e. refl;
  }

  -- and so, however the reads of layers ended
  pub read-ends : {T : Type 0} (told : Bool) (e : Extent) (bytes out last : List ℕ) (gaps : List Extent) (s : SnapshotView) (done : List (List ℕ)) (r : Result T PortFault)
      → Plans told old mid e bytes out gaps s → length last ≡ 512 * e.count → done ≡ committed mid.base mid.seen → OnOk r (ReadsOn mid new) → IfErr r (FailsOn mid new)
      → OnOk r (IsTrue mid.tells → IsTrue told × AreFilled (sectors_by (mid.base.lowers ++ done) (cells_of s.index)) e.at gaps out last)
      → MatchResult r (λ _. Reads old new e.at e.count last) (ReadFails old new e.at e.count)
  read-ends told e bytes out last gaps s done (Ok x) plan long there on off filled = reads-filled told e bytes out last gaps s done plan on long there filled
  read-ends told e bytes out last gaps s done (Err fault) plan long there on off filled = reads-fail told e bytes out gaps s fault plan off

  pub read-charges : {T U : Type 0} (x : U) (r : Result T PortFault) → ChargesPort {T = U} old mid (Ok x) → OnOk r (ReadsOn mid new) → IfErr r (FailsOn mid new) → ChargesPort old new r
  read-charges x (Ok y) c on off = reads-charge x y c on
  read-charges x (Err fault) c on off = fails-charge x fault c off

-- the plan was refused
pub plan-refused : (p q : PortState) (at count : ℕ) (fault : PortFault) → PlanFails p q fault → ReadFails p q at count fault
plan-refused p q at count Worn h = (h.0, inl h.1)
plan-refused p q at count (Full rows sectors) h = h
plan-refused p q at count Memory h = (h.0, inl h.1)
plan-refused p q at count Failed h = (h.0, inl h.1)

-- ---- what holds of a port from call to call

-- the port later, whatever it noted
abbrev pub IsLaterPort : PortState → PortState → Type 0
IsLaterPort p q = (acts : List Act) × Notes p q acts

pub change-later : {T : Type 0} (r : Result T PortFault) (p q : PortState) (act : Act) → MatchResult r (λ _. Makes p q act) (ChangeFails p q act) → IsLaterPort p q
change-later (Ok x) p q act h = (act ∷ [], h.notes)
change-later (Err Worn) p q act h = ([], h.1)
change-later (Err (Full rows sectors)) p q act h = ([], h.2)
change-later (Err Memory) p q act h = ([], h.2)
change-later (Err Failed) p q act h = (Fault Nothing ∷ [], h.1.notes)

pub flush-later : {T : Type 0} (r : Result T PortFault) (p q : PortState) (takes : Bool) → MatchResult r (λ _. Flushes p q) (FlushFails takes p q) → IsLaterPort p q
flush-later (Ok x) p q takes h = (Flush ∷ [], h.notes)
flush-later (Err Worn) p q takes h = ([], h.1)
flush-later (Err (Full rows sectors)) p q takes h = absurd h
flush-later (Err Memory) p q takes h = ([], h.2)
flush-later (Err Failed) p q takes h = (Fault Nothing ∷ [], h.1)

pub plan-later : {T : Type 0} (r : Result T PortFault) (p q : PortState) (told : Bool) (e : Extent) (bytes out : List ℕ) (gaps : List Extent) (view : T → SnapshotView)
    → MatchResult r (λ s. Plans told p q e bytes out gaps (view s)) (PlanFails p q) → IsLaterPort p q
plan-later (Ok x) p q told e bytes out gaps view h = (Read e.at e.count ∷ [], h.notes)
plan-later (Err Worn) p q told e bytes out gaps view h = ([], h.1)
plan-later (Err (Full rows sectors)) p q told e bytes out gaps view h = absurd h
plan-later (Err Memory) p q told e bytes out gaps view h = ([], h.1)
plan-later (Err Failed) p q told e bytes out gaps view h = (Fault Nothing ∷ [], h.1)

pub peek-later : {T : Type 0} (r : Result T PortFault) (p q : PortState) → MatchResult r (λ _. NotesNone p q) (PeekFails p q) → IsLaterPort p q
peek-later (Ok x) p q h = ([], h.1)
peek-later (Err Worn) p q h = ([], h.1)
peek-later (Err (Full rows sectors)) p q h = absurd h
peek-later (Err Memory) p q h = absurd h
peek-later (Err Failed) p q h = (Fault Nothing ∷ [], h.1)

-- it has seen no more than a history may have
pub later-counted : (p q : PortState) → IsLaterPort p q → p.first + length p.seen ≤ 2 ^ 62 → q.first + length q.seen ≤ 2 ^ 62
later-counted p q later le = later.1.limit le

-- and files that were committed are still there
starts-there : (files done : List (List ℕ)) → StartsWith files done → StillThere files done
starts-there files done s =
    ap (take (length done)) s.is ∙ (take-append-le (length done) done s.rest (omega arith) ∙ take_all (length done) done (omega arith))

pub there-starts : (files done : List (List ℕ)) → StillThere files done → StartsWith files done
there-starts files done there = record {
  rest = drop (length done) files;
  is = sym (take-append-drop (length done) files) ∙ ap (λ (l : List (List ℕ)). l ++ drop (length done) files) there;
}

pub later-there : (p q : PortState) (done : List (List ℕ)) → IsLaterPort p q → StillThere (committed p.base p.seen) done → StillThere (committed q.base q.seen) done
later-there p q done later there =
    subst (λ (s : PortState). StillThere (committed s.base s.seen) done) (sym later.1.is)
    (starts-there (committed p.base (p.seen ++ later.1.more)) done
    (starts-then done (committed p.base p.seen) (committed p.base (p.seen ++ later.1.more)) (there-starts (committed p.base p.seen) done there) (committed-stays p.base p.seen later.1.more)))

pub all-there : (files done : List (List ℕ)) → done ≡ files → StillThere files done
all-there files done same = subst (λ (l : List (List ℕ)). StillThere l done) same (take_all (length done) done (omega arith))

-- gaps of a plan lie in its bytes
pub plan-gaps_lie : (told : Bool) (p q : PortState) (e : Extent) (bytes out : List ℕ) (gaps slice : List Extent) (s : SnapshotView) (size : ℕ) → Plans told p q e bytes out gaps s → slice ≡ gaps → size ≡ 512 * e.count
    → All (LiesIn e.at size) slice
plan-gaps_lie told p q e bytes out gaps slice s size plan same long =
    subst (All (LiesIn e.at size)) (sym same)
    (gaps-lie (IsGap (now p.base (p.seen ++ plan.before))) e.at size e.at (e.at + e.count) gaps (omega arith) (omega (arith, long)) plan.gaps_are)

-- and no cell of its snapshot names a file that is none of the layers
pub plan-named : (told : Bool) (p q : PortState) (e : Extent) (bytes out : List ℕ) (gaps : List Extent) (s : SnapshotView) (done : List (List ℕ))
    → Plans told p q e bytes out gaps s → done ≡ committed q.base q.seen → AreOnShelf (length q.base.lowers + length done) (cells_of s.index)
plan-named told p q e bytes out gaps s done plan there =
    let h : History = p.seen ++ plan.before in
    let same : done ≡ committed p.base h = there ∙ done-there p q q told e bytes out gaps s plan in
    subst (λ (b : Base). AreOnShelf (length b.lowers + length done) (cells_of s.index)) (sym (ap (λ (x : PortState). x.base) plan.notes.is))
    (subst (λ (n : ℕ). AreOnShelf n (cells_of s.index))
    (length-append p.base.lowers (committed p.base h) ∙ ap (λ (l : List (List ℕ)). length p.base.lowers + length l) (sym same)) plan.below.named)

-- where disk and shelf tell, the gaps were filled from the files of the layers
filled-all : (told : Bool) (files : Option (List (List ℕ))) (lowers done : List (List ℕ)) (s : SnapshotView) (at : ℕ) (gaps : List Extent) (mid out : List ℕ)
    → ForSome files (λ f. f ≡ lowers) → IfSome (files_told told files done) (λ f. AreFilled (sectors_by f (cells_of s.index)) at gaps mid out)
    → IsTrue (told && is_some files) → IsTrue told × AreFilled (sectors_by (lowers ++ done) (cells_of s.index)) at gaps mid out
filled-all true None lowers done s at gaps mid out is filled all = absurd (cc all)
filled-all true (Some f) lowers done s at gaps mid out is filled all =
    (refl, subst (λ (l : List (List ℕ)). AreFilled (sectors_by (l ++ done) (cells_of s.index)) at gaps mid out) (is f refl) filled)
filled-all false None lowers done s at gaps mid out is filled all = absurd (cc all)
filled-all false (Some f) lowers done s at gaps mid out is filled all = absurd (cc all)

-- files that were filled from, however the reads ended
pub all-filled : {T E : Type 0} (told : Bool) (files : Option (List (List ℕ))) (lowers done : List (List ℕ)) (s : SnapshotView) (at : ℕ) (gaps : List Extent) (mid out : List ℕ) (r : Result T E)
    → ForSome files (λ f. f ≡ lowers) → OnOk r (IfSome (files_told told files done) (λ f. AreFilled (sectors_by f (cells_of s.index)) at gaps mid out))
    → OnOk r (IsTrue (told && is_some files) → IsTrue told × AreFilled (sectors_by (lowers ++ done) (cells_of s.index)) at gaps mid out)
all-filled told files lowers done s at gaps mid out (Ok x) is filled = filled-all told files lowers done s at gaps mid out is filled
all-filled told files lowers done s at gaps mid out (Err e) is filled = tt

abbrev fault_in : {A : Type 0} → Result A PortFault → PortFault
fault_in (Ok x) = Worn
fault_in (Err fault) = fault

-- a refusal that is handed on
pub same-fault : {A B : Type 0} (fault why : PortFault) → IsErrOf {T = A} {E = PortFault} (Err fault) why → IsErrOf {T = B} {E = PortFault} (Err fault) why
same-fault {A} fault why is = ap (λ (f : PortFault). Err f) (ap (fault_in {A = A}) is)

pub refused-charges : {A B : Type 0} (fault : PortFault) (p q : PortState) → ChargesPort {T = A} p q (Err fault) → ChargesPort {T = B} p q (Err fault)
refused-charges {A} {B} fault p q c = record {
  later = c.later;
  failed = λ is. c.failed (same-fault {A = B} {B = A} fault Failed is);
  only = λ more. same-fault {A = A} {B = B} fault Failed (c.only more);
}
