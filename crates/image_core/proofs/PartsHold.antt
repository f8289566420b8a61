-- What the parts of an image and its files hold is what the image keeps for its history.
use Rattle.std.proofs.Common.{◌≡◌, ℕ, suc, ◌+◌, ◌<◌, ◌≤◌, ◌⊎◌, inl, inr, Bool, IsTrue, List, [], ◌∷◌, length, reverse, refl, sym, ap, ◌∙◌, subst, arith}
use Rattle.std.specs.Prelude.{Contains, Option, Some, None, slice_index_or}
use Rattle.std.specs.Option.{option_map}
use Rattle.std.proofs.lemmas.List.{get_or_past}
use Rattle.std.proofs.lemmas.List.FromFn.{length-map-range_with_len, get_or-map-range_with_len}
use Rattle.std.proofs.lemmas.Bool.Decides.{leb_tells}
use Rattle.block_disk.specs.DiskState.{DiskState, Files}
use Rattle.gate_mark.specs.Mark.{MayHold}
use Rattle.gate_mark.specs.Shown.{shown}
use Rattle.seg_table.specs.declared.segment.What.{What}
use Rattle.seg_table.specs.declared.segment.What.TheVariants as what
use Rattle.seg_table.specs.Cells.{cell_in}
use Rattle.flat_image.specs.declared.act.Asked.{Asked}
use Rattle.flat_image.specs.declared.base.Base.{Base}
use Rattle.flat_image.specs.Frozen.{Frozen}
use Rattle.flat_image.specs.Sheets.{Cell, Hole}
use Rattle.flat_image.specs.RowCells.{cell_of}
use Rattle.flat_image.specs.History.{History, now, HasRoom}
use Rattle.flat_image.specs.Left.{Stand, stand}
use Rattle.top_writer.specs.declared.top.Top.{Top}
use Rattle.top_writer.specs.Files.{data_file, HeadsAsked, stored_in, TopFiles}
use Rattle.top_writer.specs.Fitting.{ViewFits}
use Rattle.top_writer.specs.Showing.{ShowsOne}
use Rattle.top_writer.specs.View.{TopView, view_of, table_of, cell_at}
use Rattle.top_writer.proofs.HoldLaws.{place_front}
use Rattle.top_writer.proofs.GrowLaws.{shows_weaker}
use Rattle.top_writer.proofs.ShowLaws.{either_body, fits_shown}
use Rattle.image_core.specs.declared.parts.Commit.{Commit}
use Rattle.image_core.specs.declared.parts.Parts.{Parts}
use Rattle.image_core.specs.Numbers.{manifest_file, sealed_file}
use Rattle.gate_mark.specs.MarkFile as marks
use Rattle.flat_image.specs.Base.{pending_of}
use Rattle.image_core.specs.Manifest.{Names, exact_said}
use Rattle.image_core.specs.Shows.{epoch_of, parent_asked, heads_asked, ShowsFrozen, IsFrozenFile}
use Rattle.image_core.specs.View.{IsKindOf, HasKinds, ReadsAs, IsCommitOf, CommitReadsAs}
use Rattle.image_core.specs.FileSets.{WasTried, FilesFit}
use Rattle.image_core.specs.Keeping.{HoldsAs, KeepsFor}
use Rattle.image_core.specs.Parts.{commit_view, parts_view, frozen_stand, CommitsFit, WasMade, PartsFit}
use Rattle.image_core.specs.Seen.{Seen, StandsFor}
use Rattle.image_core.proofs.Sizes.{sound-weaker}
use Rattle.image_core.proofs.StackLaws.{not-manifest, not-sealed, not-frozen_file, not-next_file, sealed-shown, frozen-shown, made-shown}

-- an entry is of the kind of the cell that it says
entry-kind : (file : List ℕ) (e : Option What) → IsKindOf e (cell_at file e)
entry-kind file None = tt
entry-kind file (Some what.Zero) = tt
entry-kind file (Some (what.Place place)) = tt

module _ (tells : Bool) (disk : DiskState) (n : ℕ) (asked : HeadsAsked) (v : TopView) (s : Stand) (may : List Stand) (fits : ViewFits tells disk n asked v s may) where
  abbrev cells : ℕ → Cell
  cells = cell_of fits.file (reverse fits.rows)

  table-cell : (i : ℕ) → i < n → cell_at fits.file (cell_in v.segments i) ≡ slice_index_or s.cells i Hole
  table-cell i below =
      fits.holds.table.same i below
      ∙ sym (ap (λ (l : List Cell). slice_index_or l i Hole) fits.holds.cells ∙ get_or-map-range_with_len cells 0 n i i Hole below (omega arith))

  past-cells : (i : ℕ) → n ≤ i → slice_index_or s.cells i Hole ≡ Hole
  past-cells i past =
      let long : length s.cells ≡ n = ap (length {A = Cell}) fits.holds.cells ∙ length-map-range_with_len cells 0 n in
      get_or_past s.cells i Hole (omega (arith, long, past))

  -- the table of a top has the kinds of its cells, and says them where the disk tells
  pub top-kinds : HasKinds s.cells v.segments
  top-kinds i =
      elim (leb_tells (suc i) n) [
        | inl e ↦ subst (IsKindOf (cell_in v.segments i)) (table-cell i e.1) (entry-kind fits.file (cell_in v.segments i))
        | inr e ↦
            let past : n ≤ i = omega (arith, e.1) in
            subst (IsKindOf (cell_in v.segments i)) (sym (past-cells i past)) (subst (λ (o : Option What). IsKindOf o Hole) (sym (fits.holds.table.within i past)) tt)
      ]

  pub top-reads : IsTrue tells → ReadsAs (disk.seen (data_file v.epoch)) s.cells v.segments
  top-reads told i =
      let file : List ℕ = disk.seen (data_file v.epoch) in
      elim (leb_tells (suc i) n) [
        | inl e ↦ place_front v.filled fits.file file (cell_in v.segments i) (fits.holds.table.to i) (fits.lasts.seen told) ∙ table-cell i e.1
        | inr e ↦
            let past : n ≤ i = omega (arith, e.1) in
            ap (cell_at file) (fits.holds.table.within i past) ∙ sym (past-cells i past)
      ]

  pub top-room : HasRoom s.rows s.filled
  top-room =
      let holds = fits.holds in
      record { rows_fit = omega (arith, holds.rows_are, holds.room.rows_fit); sectors_fit = omega (arith, holds.filled_are, holds.room.sectors_fit) }

-- a frozen sheet that is shown, where less is asked
frozen-weaker : (exact exact' : Bool) (done n : ℕ) (lowers : List (List ℕ)) (frozen : Option Frozen) (files : Files) → (IsTrue exact' → IsTrue exact)
    → ShowsFrozen exact done n lowers frozen files → ShowsFrozen exact' done n lowers frozen files
frozen-weaker exact exact' done n lowers None files may shows = tt
frozen-weaker exact exact' done n lowers (Some f) files may shows = record {
  rows = shows.rows;
  filled = shows.filled;
  shows = shows_weaker n exact exact' (parent_asked done lowers) (frozen_stand f shows.rows shows.filled) (stored_in done files) may shows.shows;
}

-- the commit in progress, seen from above, is what is frozen, as its table says and as it reads
commit-viewed : (tells : Bool) (disk : DiskState) (exact : Bool) (n : ℕ) (lowers done : List (List ℕ)) (frozen : Option Frozen) (commit : Option Commit)
    → CommitsFit tells disk exact n lowers done frozen commit → IsCommitOf (length done) frozen (option_map commit_view commit)
commit-viewed tells disk exact n lowers done None None fit = tt
commit-viewed tells disk exact n lowers done None (Some c) fit = absurd fit
commit-viewed tells disk exact n lowers done (Some f) None fit = absurd fit
commit-viewed tells disk exact n lowers done (Some f) (Some c) fit =
    let s : Stand = frozen_stand f fit.rows fit.filled in (
      fit.uuid_is,
      fit.epoch,
      top-kinds tells disk n (heads_asked exact (length done) lowers) (view_of c.top) s (s ∷ []) fit.top,
    )

commit-reads : (tells : Bool) (disk : DiskState) (exact : Bool) (n : ℕ) (lowers done : List (List ℕ)) (frozen : Option Frozen) (commit : Option Commit) → IsTrue tells
    → CommitsFit tells disk exact n lowers done frozen commit → CommitReadsAs (disk.seen (data_file (length done))) frozen (option_map commit_view commit)
commit-reads tells disk exact n lowers done None None told fit = tt
commit-reads tells disk exact n lowers done None (Some c) told fit = absurd fit
commit-reads tells disk exact n lowers done (Some f) None told fit = absurd fit
commit-reads tells disk exact n lowers done (Some f) (Some c) told fit =
    let s : Stand = frozen_stand f fit.rows fit.filled in
    subst (λ e. ReadsAs (disk.seen (data_file e)) f.sheet (table_of c.top).segments) fit.epoch
    (top-reads tells disk n (heads_asked exact (length done) lowers) (view_of c.top) s (s ∷ []) fit.top told)

module _ (tells : Bool) (disk : DiskState) (p : Parts) (b : Base) (tops : List Stand) (attempts : List Asked) (fit : PartsFit tells disk p b tops attempts) where
  abbrev asked : HeadsAsked
  asked = heads_asked fit.exact (epoch_of b) b.lowers

  -- files whose manifest names what the image has, or what was tried, and whose other files are as a crash may leave them,
  -- with a top that shows one of some tops, are those of the image
  pub files-of : (may : List Stand) (tried : List Asked) (files : Files) (sequence : ℕ) (body : List ℕ) → marks.Shows sequence body (files manifest_file)
      → (IsTrue (exact_said body) → IsTrue fit.exact)
      → Names body (length b.done) (pending_of b.frozen) b.sectors ⊎ ((a : Asked) × Contains tried a × WasTried b a body files)
      → ((k : ℕ) → k < length b.done → disk.may_leave (sealed_file k) (files (sealed_file k)))
      → ((f : ℕ) → IsFrozenFile (length b.done) b.frozen f → disk.may_leave f (files f))
      → ShowsOne (epoch_of b) b.sectors (heads_asked fit.exact (epoch_of b) b.lowers) may files → FilesFit b may tried files
  files-of may tried files sequence body manifest format named sealed frozen one = record {
    sequence = sequence;
    body = body;
    manifest = manifest;
    named = named;
    sound = sound-weaker fit.exact (exact_said body) b format fit.sound;
    done = sealed-shown tells disk b.done files fit.stack.sealed sealed;
    frozen = frozen-weaker fit.exact (exact_said body) (length b.done) b.sectors b.lowers b.frozen files format
        (frozen-shown tells disk fit.exact b.sectors b.lowers b.done b.frozen p.stack.commit files fit.stack.commit frozen);
    top = one.stand;
    among = one.among;
    shows = shows_weaker b.sectors fit.exact (exact_said body) (parent_asked (epoch_of b) b.lowers) one.stand (stored_in (epoch_of b) files) format one.shows;
  }

  -- what a body that the manifest may hold names, where the files of the next top and the next sealed file are left so
  pub named-shown : (tried : List Asked) (files : Files) (body : List ℕ)
      → Names body (length b.done) (pending_of b.frozen) b.sectors ⊎ ((a : Asked) × Contains tried a × WasMade disk b.sectors b.lowers b.done b.frozen p.stack a body)
      → ((t : Top) → p.stack.next ≡ Some t → (f : ℕ) → TopFiles (length b.done + 1) f → disk.may_leave f (files f))
      → disk.may_leave (sealed_file (length b.done)) (files (sealed_file (length b.done)))
      → Names body (length b.done) (pending_of b.frozen) b.sectors ⊎ ((a : Asked) × Contains tried a × WasTried b a body files)
  named-shown tried files body named next pending = elim named [
    | inl names ↦ inl names
    | inr made ↦ inr (made.0, made.1, made-shown tells disk b p.stack made.0 body files fit.stack.next made.2 next pending)
  ]

  -- the body that a crash leaves of the manifest
  pub held-body : (files : Files) → disk.may_leave manifest_file (files manifest_file) → (sequence : ℕ) × (body : List ℕ) × MayHold p.manifest body × marks.Shows sequence body (files manifest_file)
  held-body files left =
      let file : List ℕ = files manifest_file in
      let fits = fit.manifest file (subst (λ (f : ℕ). disk.may_leave f file) (sym fit.manifest_is) left) in
      either_body p.manifest p.manifest.rest file (shown p.manifest.current p.manifest.sequence p.manifest.body p.manifest.rest file fits)

  -- and so those of which all but the top is left so
  pub files-fit : (may : List Stand) (files : Files) → ((f : ℕ) → ¬ TopFiles (epoch_of b) f → disk.may_leave f (files f))
      → ShowsOne (epoch_of b) b.sectors (heads_asked fit.exact (epoch_of b) b.lowers) may files → FilesFit b may attempts files
  files-fit may files left one =
      let held = held-body files (left manifest_file (λ of_top. not-manifest (epoch_of b) manifest_file refl of_top)) in
      files-of may attempts files held.0 held.1 held.3 (fit.format held.1 held.2)
      (named-shown attempts files held.1 (fit.named held.1 held.2)
      (λ t is f of_next. left f (λ of_top. not-next_file tells disk b.sectors (length b.done) b.frozen p.stack.next t f is fit.stack.next of_next of_top))
      (left (sealed_file (length b.done)) (λ of_top. not-sealed (epoch_of b) (length b.done) of_top)))
      (λ k below. left (sealed_file k) (λ of_top. not-sealed (epoch_of b) k of_top))
      (λ f of_frozen. left f (λ of_top. not-frozen_file (length b.done) b.frozen f of_frozen of_top)) one

  pub parts-hold : HoldsAs tells disk (parts_view p) b tops attempts
  parts-hold = record {
    view = record {
      sectors = fit.top.holds.sectors;
      lowers = fit.stack.lowers_are;
      committed = fit.stack.committed;
      commit = commit-viewed tells disk fit.exact b.sectors b.lowers b.done b.frozen p.stack.commit fit.stack.commit;
      epoch = fit.epoch;
      table = top-kinds tells disk b.sectors asked (view_of p.top) (stand b) tops fit.top;
      rows = sym fit.top.holds.rows_are;
      filled = sym fit.top.holds.filled_are;
    };
    told = λ told. record {
      committed = λ k below. (fit.stack.sealed k below).seen told;
      commit = commit-reads tells disk fit.exact b.sectors b.lowers b.done b.frozen p.stack.commit told fit.stack.commit;
      table = subst (λ e. ReadsAs (disk.seen (data_file e)) b.top p.top.table.segments) fit.epoch
          (top-reads tells disk b.sectors asked (view_of p.top) (stand b) tops fit.top told);
    };
    crash = λ files leaves. files-fit tops files (λ f not. leaves f)
        (subst (λ e. ShowsOne e b.sectors asked tops files) fit.epoch (fits_shown tells disk b.sectors asked (view_of p.top) (stand b) tops fit.top files leaves));
  }

-- so an image that stands for a history keeps what it needs for it
pub parts-keep : (x : Seen) (base : Base) (history : History) → StandsFor x base history → KeepsFor x.tells x.state x.faults (parts_view x.parts) base history
parts-keep x base history stands = record {
  base_is = stands.base_is;
  few = stands.few;
  proper = stands.proper;
  failed = stands.failed;
  steps = stands.steps;
  tops = stands.tops;
  attempts = stands.attempts;
  holds = parts-hold x.tells x.state x.parts (now base history) stands.tops stands.attempts stands.fits;
  kept = stands.kept;
  blamed = stands.blamed;
}
