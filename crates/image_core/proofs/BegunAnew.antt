-- A commit in progress that is begun anew when its image is loaded.
use Rattle.std.proofs.Common.{◌≡◌, ◌≢◌, ℕ, ◌+◌, ◌*◌, ◌^◌, ◌<◌, ◌≤◌, Bool, IsTrue, List, [], ◌∷◌, ◌++◌, length, refl, sym, ap, ◌∙◌, subst, arith}
use Rattle.std.specs.Prelude.{Option, Some, None, IfSome}
use Rattle.std.specs.Option.{option_map}
use Rattle.std.specs.Arc.{arc_value}
use Rattle.std.specs.Vec.{vec_len, vec_capacity}
use Rattle.block_disk.specs.DiskState.{DiskState, Files}
use Rattle.lsmt_header.specs.Blocks.{IsSize, nil}
use Rattle.seg_table.specs.Cells.{cells_of}
use Rattle.sealed_layer.specs.Layers.{LayerIndex}
use Rattle.flat_image.specs.Sheets.{IsSheet}
use Rattle.flat_image.specs.Frozen.{Frozen}
use Rattle.flat_image.specs.Base.{top_uuid, top_size}
use Rattle.flat_image.specs.CanonicalFiles as canonical
use Rattle.flat_image.specs.Left.{Stand}
use Rattle.layer_commit.specs.Fitting.{Begun}
use Rattle.layer_commit.specs.Gathered.{ArePlaces}
use Rattle.layer_commit.specs.Sources.{table_sheet}
use Rattle.top_writer.specs.declared.top.Top.{Top}
use Rattle.top_writer.specs.Blank.{blank_sheet}
use Rattle.top_writer.specs.Files.{HeadsAsked, asked_of, data_file, stored_in}
use Rattle.top_writer.specs.Fitting.{TopFits}
use Rattle.top_writer.specs.View.{view_of, epoch_of, sectors_of, sequence_of, table_of}
use Rattle.image_core.specs.declared.loading.Named.{Named}
use Rattle.image_core.specs.declared.parts.Commit.{Commit}
use Rattle.image_core.specs.declared.parts.Stack.{Stack}
use Rattle.image_core.specs.Numbers.{sealed_file}
use Rattle.image_core.specs.Shows.{heads_asked}
use Rattle.image_core.specs.View.{AreLayersOf}
use Rattle.image_core.specs.Opening.{blank_frozen}
use Rattle.image_core.specs.Pieces.{IsSnapshotOf}
use Rattle.image_core.specs.Parts.{layer_in, commit_view, frozen_stand, CommitsFit, Becomes, IsSameStack}
use Rattle.image_core.specs.Loading.{upper_uuid, upper_size, parent_over, heads_over}
use Rattle.image_core.specs.Found.{IsTopRead, IsFrozenRead, IsBegunAnew, IsCommitRead}
use Rattle.image_core.proofs.Created.{same-upper}
use Rattle.image_core.proofs.FrozenTops.{own-sheet, own-places, own-rows, begun-fits, layers-append, same-size}
use Rattle.image_core.proofs.Loaded.{top-sheet, top-few}
use Rattle.image_core.proofs.LoadedParts.{parent-same, IsShown}
use Rattle.image_core.proofs.SheetsRead.{layers-length}

-- what `Top::load` says of a top, where the parent is that of the epoch
pub top-read : (tells : Bool) (old new : DiskState) (epoch : ℕ) (named : Named) (lowers : List LayerIndex) (parent : Option (List ℕ)) (top : Top) (s : Stand) → parent ≡ parent_over epoch lowers
    → TopFits tells new named.sectors (asked_of named.exact parent) top s (s ∷ []) → (IsTrue tells → IsShown named.sectors (asked_of named.exact parent) s (stored_in epoch old.seen))
    → (¬ IsTrue tells → s.cells ≡ blank_sheet named.sectors (table_of top).segments) → epoch_of top ≡ epoch → sectors_of top ≡ named.sectors → sequence_of top ≤ 2 ^ 61
    → IsTopRead tells old new epoch named lowers top s
top-read tells old new epoch named lowers parent top s is fits shows blank epoch_is sectors low = record {
  fits = subst (λ (p : Option (List ℕ)). TopFits tells new named.sectors (asked_of named.exact p) top s (s ∷ [])) is fits;
  shows = λ told. subst (λ (p : Option (List ℕ)). IsShown named.sectors (asked_of named.exact p) s (stored_in epoch old.seen)) is (shows told);
  blank = blank;
  epoch_is = epoch_is;
  sectors = sectors;
  low = low;
}

module _ (tells : Bool) (old new : DiskState) (epoch : ℕ) (named : Named) (lowers : List LayerIndex) (top : Top) (st : Stand) (read : IsTopRead tells old new epoch named lowers top st) where
  abbrev asked : HeadsAsked
  asked = heads_over named.exact epoch lowers

  pub read-places : ArePlaces (cells_of (table_of top))
  read-places = own-places tells new named.sectors asked (view_of top) st (st ∷ []) read.fits (table_of top) refl

  pub read-rows : IsSize named.sectors → (stored : List ℕ) × (length (canonical.canonical_rows (table_sheet stored (sectors_of top) (table_of top))) ≤ 2 ^ 24)
  read-rows size =
      subst (λ (n : ℕ). (stored : List ℕ) × (length (canonical.canonical_rows (table_sheet stored n (table_of top))) ≤ 2 ^ 24)) (sym read.sectors)
      (own-rows tells new named.sectors asked (view_of top) st (st ∷ []) read.fits (table_of top) refl
      (top-few tells new named.sectors asked (view_of top) st (st ∷ []) read.fits) size.1)

  read-sheet : IsSize named.sectors → IsSheet named.sectors st.cells
  read-sheet size = top-sheet tells new named.sectors asked (view_of top) st (st ∷ []) read.fits size

-- a commit of a frozen top that was read, and of a sealing that was begun with its table
pub begun-anew : (tells : Bool) (old new : DiskState) (named : Named) (s t : Stack) (c : Commit) (st : Stand) (uuid : List ℕ)
    → IsTopRead tells old new (length s.committed.items) named s.lowers c.top st → IsSize named.sectors → c.uuid ≡ uuid → length uuid ≡ 16 → uuid ≢ nil
    → Begun (table_of c.top) uuid (upper_uuid (s.lowers ++ s.committed.items)) (upper_size (sectors_of c.top) (s.lowers ++ s.committed.items)) (sectors_of c.top)
    (data_file (length s.committed.items)) (sealed_file (length s.committed.items)) c.sealing
    → (IsSnapshotOf (arc_value s.snapshot) s.lowers s.committed.items → IsSnapshotOf (arc_value c.snapshot) s.lowers (s.committed.items ++ layer_in c.sealing ∷ []))
    → vec_len t.committed < vec_capacity t.committed → IsSameStack s t → IsBegunAnew tells old new named s t c (record { uuid = uuid; sheet = st.cells })
begun-anew tells old new named s t c st uuid read size uuid_is long not_nil begun snapshot room same =
    let n : ℕ = named.sectors in
    let all : List LayerIndex = s.lowers ++ s.committed.items in
    let sheet_is : IsSheet n st.cells = read-sheet tells old new (length s.committed.items) named s.lowers c.top st read size in
    let started : Begun (table_of c.top) uuid (upper_uuid all) (upper_size (sectors_of c.top) all) n (data_file (length s.committed.items)) (sealed_file (length s.committed.items)) c.sealing =
    subst (λ (k : ℕ). Begun (table_of c.top) uuid (upper_uuid all) (upper_size (sectors_of c.top) all) k (data_file (length s.committed.items)) (sealed_file (length s.committed.items)) c.sealing) read.sectors begun in
    record {
      fits = λ lowers done are also.
          let layers = layers-append lowers done s.lowers s.committed.items are also in
          let number : length s.committed.items ≡ length done = sym (layers-length done s.committed.items also) in
          let asked : HeadsAsked = heads_asked named.exact (length done) lowers in
          let here : TopFits tells new n asked c.top st (st ∷ []) =
          subst (λ (k : ℕ). TopFits tells new n (heads_asked named.exact k lowers) c.top st (st ∷ [])) number
          (subst (λ (p : Option (List ℕ)). TopFits tells new n (asked_of named.exact p) c.top st (st ∷ [])) (parent-same (length s.committed.items) lowers s.lowers are) read.fits) in
          let parent : upper_uuid all ≡ top_uuid (lowers ++ done) = same-upper (lowers ++ done) all layers in
          let below : upper_size (sectors_of c.top) all ≡ top_size (length st.cells) (lowers ++ done) =
          ap (λ (k : ℕ). upper_size k all) (read.sectors ∙ sym sheet_is.count) ∙ same-size (length st.cells) (lowers ++ done) all layers in
          let sheet : table_sheet here.file n (table_of c.top) ≡ st.cells = own-sheet tells new n asked (view_of c.top) st (st ∷ []) here (table_of c.top) refl in
          record {
            uuid_is = uuid_is;
            epoch = read.epoch_is ∙ number;
            rows = st.rows;
            filled = st.filled;
            top = here;
            stored = here.file;
            sealing = begun-fits tells new n asked (view_of c.top) st (st ∷ []) here (table_of c.top) refl uuid (upper_uuid all) (upper_size (sectors_of c.top) all)
                (data_file (length s.committed.items)) (sealed_file (length s.committed.items)) c.sealing started (ap data_file (sym read.epoch_is));
            from = started.from_is ∙ ap data_file number;
            to = started.to_is ∙ ap sealed_file number;
            file = started.file here.file ∙ (λ i. canonical.file_of uuid (parent i) (below i) (sheet i));
          };
      shows = λ told. let shown = read.shows told in (st.rows, st.filled, shown.0, shown.1);
      blank = read.blank;
      begun = begun.none;
      becomes = λ is. record {
        snapshot = subst (λ (l : List LayerIndex). IsSnapshotOf (arc_value c.snapshot) l (t.committed.items ++ layer_in c.sealing ∷ [])) (sym same.lowers)
            (subst (λ (l : List LayerIndex). IsSnapshotOf (arc_value c.snapshot) s.lowers (l ++ layer_in c.sealing ∷ [])) (sym same.committed) (snapshot is));
        room = room;
      };
      sheet_is = record { long = long; named = not_nil; sheet_is = sheet_is };
      few =
          let holds = read.fits.holds in
          let stretches = top-few tells new n (heads_over named.exact (length s.committed.items) s.lowers) (view_of c.top) st (st ∷ []) read.fits in
          omega (arith, stretches, holds.rows_are, holds.room.rows_fit);
      same = same;
    }

some-commit : (c d : Commit) → Some c ≡ Some d → c ≡ d
some-commit c d is = cc

-- the stack with it
pub commit-read : (tells : Bool) (old new : DiskState) (named : Named) (s t : Stack) (c : Commit) (f : Frozen) (uuid : List ℕ) → named.pending ≡ Some uuid → f.uuid ≡ uuid → c.uuid ≡ uuid
    → IsSnapshotOf (arc_value s.snapshot) s.lowers s.committed.items → IsBegunAnew tells old new named s t c f
    → IsCommitRead tells old new named s (record t { commit = Some c }) (Some f)
commit-read tells old new named s t c f uuid pending f_is c_is snapshot begun =
    let same = begun.same in
    let uuids : f.uuid ≡ c.uuid = f_is ∙ sym c_is in
    record {
      uuid = ap (λ (u : List ℕ). Some u) f_is ∙ sym pending;
      fits = begun.fits;
      shows = begun.shows;
      blank = λ no. let cells = begun.blank no in λ i. Some (record { uuid = uuids i; sheet = cells i });
      begun = begun.begun;
      becomes = λ d is.
          let here = begun.becomes snapshot in
          subst (λ (x : Commit). Becomes (record t { commit = Some c }) x) (some-commit c d is) (record { snapshot = here.snapshot; room = here.room });
      sheet_is = begun.sheet_is;
      few = begun.few;
      lowers = same.lowers;
      committed = same.committed;
      snapshot = same.snapshot;
      next = same.next;
    }

-- and the stack without one
pub commit-none : (tells : Bool) (old : DiskState) (named : Named) (s : Stack) → named.pending ≡ None → s.commit ≡ None → IsCommitRead tells old old named s s None
commit-none tells old named s pending none = record {
  uuid = sym pending;
  fits = λ lowers done are also. subst (CommitsFit tells old named.exact named.sectors lowers done None) (sym none) tt;
  shows = λ told. tt;
  blank = λ no. ap (λ (c : Option Commit). blank_frozen named.sectors (option_map commit_view c)) (sym none);
  begun = subst (λ (c : Option Commit). IfSome c (λ c. c.sealing.done ≡ 0)) (sym none) tt;
  becomes = λ c is. absurd (let no : Some c ≡ None = sym is ∙ none in cc);
  sheet_is = tt;
  few = tt;
  lowers = refl;
  committed = refl;
  snapshot = refl;
  next = refl;
}
