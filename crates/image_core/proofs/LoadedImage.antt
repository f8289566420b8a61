-- What a load has found makes an image that stands for what the files show.
use Rattle.std.proofs.Common.{◌≡◌, ◌≢◌, ℕ, ◌+◌, ◌*◌, ◌^◌, ◌<◌, ◌≤◌, Bool, inl, IsTrue, List, [], ◌∷◌, ◌++◌, length, map, take, drop, refl, sym, ap, ◌∙◌, subst, arith}
use Rattle.std.specs.Prelude.{All, Contains, Option, Some, None, IfSome, slice_index_or}
use Rattle.std.specs.Option.{option_map}
use Rattle.std.specs.Arc.{arc_value}
use Rattle.std.proofs.lemmas.List.{map-append}
use Rattle.std.proofs.lemmas.List.Elements.{All-nil, All-append}
use Rattle.std.proofs.Math.Seq.{take-append_seam, drop-append_seam}
use Rattle.block_disk.specs.DiskState.{DiskState, Files}
use Rattle.block_disk.specs.Claims.{Quiet}
use Rattle.gate_mark.specs.declared.mark.Mark.{Mark}
use Rattle.gate_mark.specs.Mark.{file_of, sequence_in, body_in, IsKept, MayHold}
use Rattle.lsmt_header.specs.declared.head.Head.{Head}
use Rattle.sealed_layer.specs.Layers.{LayerIndex, IsLayerIndex}
use Rattle.flat_image.specs.declared.base.Base.{Base}
use Rattle.flat_image.specs.Frozen.{Frozen}
use Rattle.flat_image.specs.LayerReading.{uuid_in}
use Rattle.flat_image.specs.Base.{pending_of, IsBase}
use Rattle.flat_image.specs.Left.{Stand, stand, Blamed}
use Rattle.top_writer.specs.Blank.{blank_sheet}
use Rattle.top_writer.specs.Files.{HeadsAsked, asked_of, stored_in, IsSizeFor}
use Rattle.top_writer.specs.Fitting.{TopFits}
use Rattle.top_writer.specs.View.{view_of, epoch_of, sectors_of, table_of}
use Rattle.image_core.specs.declared.loading.Named.{Named}
use Rattle.image_core.specs.declared.parts.Parts.{Parts}
use Rattle.image_core.specs.declared.parts.Stack.{Stack}
use Rattle.image_core.specs.Numbers.{sealed_file, with_pending}
use Rattle.image_core.specs.Manifest.{Names, exact_said}
use Rattle.image_core.specs.Shows as shows
use Rattle.image_core.specs.Shows.{HaveSize, AreStack, IsSound, heads_asked, parent_asked, ShowsFrozen, IsFrozenUnworn}
use Rattle.image_core.specs.View.{AreLayersOf, sealed_read}
use Rattle.image_core.specs.Opening.{blank_layers, blank_frozen}
use Rattle.image_core.specs.Pieces.{IsSnapshotOf}
use Rattle.image_core.specs.Parts.{CommitsFit, NextsFit, StackFits, PartsFit, commit_view, parts_view}
use Rattle.image_core.specs.Seen.{IsLoaded}
use Rattle.image_core.specs.Loading.{heads_in, HasManifest}
use Rattle.image_core.specs.Found.{IsManifest, AreRead, AreSound, IsFrozenRead, ArePartsRead}
use Rattle.image_core.proofs.Created.{heads-of}
use Rattle.image_core.proofs.FrozenTops.{layers-append, same-uuids}
use Rattle.image_core.proofs.Lifts.{kept-one}
use Rattle.image_core.proofs.Loaded.{top-sheet, top-few}
use Rattle.image_core.proofs.LoadedParts.{seen-same, parent-same, IsShown, frozen-shows, done-from, all-behind, are-done, length-done, done-told, done-untold, done-whole, parts-earlier, commit-earlier}
use Rattle.image_core.proofs.PartsHold.{top-room}
use Rattle.image_core.proofs.SheetsRead.{layers-length}
use Rattle.image_core.proofs.Sizes.{heads-layers, stack-rising}

-- the state before is `old`, `one` behind the manifest, `two` behind the sealed files, and then `new`
module _ (tells : Bool) (old one two new : DiskState) (faults : ℕ) (named : Named) (mark : Mark) (layers sealed : List LayerIndex) (p : Parts) (files : List (List ℕ))
    (first : Quiet old one) (second : Quiet one two) (third : Quiet two new) (told_law : (f : ℕ) (c : List ℕ) → new.may_leave f c → IsTrue tells)
    (m : IsManifest tells old one layers mark named) (read : AreRead tells one two sealed) (number : length sealed ≡ named.count)
    (parts : ArePartsRead tells two new named layers sealed p) (manifest_is : p.manifest ≡ mark) (are : AreLayersOf files layers) where
  abbrev n : ℕ
  n = named.sectors

  abbrev done : List (List ℕ)
  done = done-from tells one.seen sealed

  abbrev b : Base
  b = record {
    sectors = named.sectors;
    lowers = files;
    done = done-from tells one.seen sealed;
    frozen = parts.frozen;
    top = parts.stand.cells;
    rows = parts.stand.rows;
    filled = parts.stand.filled;
    faults = faults;
  }

  also : AreLayersOf done sealed
  also = are-done tells one.seen sealed read.told (all-behind layers sealed parts.indexed)

  all-are : AreLayersOf (files ++ done) (layers ++ sealed)
  all-are = layers-append files done layers sealed are also

  long : length done ≡ named.count
  long = length-done tells one.seen sealed ∙ number

  lowers-is : parts.before.lowers ≡ layers
  lowers-is = parts.stack.lowers ∙ take-append_seam layers sealed

  committed-is : parts.before.committed.items ≡ sealed
  committed-is = parts.stack.committed ∙ drop-append_seam layers sealed

  count-is : length parts.before.committed.items ≡ length done
  count-is = ap (length {A = LayerIndex}) committed-is ∙ sym (length-done tells one.seen sealed)

  names : Names (body_in mark) (length done) (pending_of parts.frozen) n
  names = subst (λ (k : ℕ). Names (body_in mark) k (pending_of parts.frozen) n) (sym long)
      (subst (λ (u : Option (List ℕ)). Names (body_in mark) named.count u n) (sym parts.commit.uuid) m.named_by.names.names)

  stack : AreStack named.exact n (files ++ done)
  stack = record {
    heads = heads_in (layers ++ sealed);
    are = heads-of (files ++ done) (layers ++ sealed) all-are;
    sizes = subst (HaveSize named.exact n) (sym (map-append (λ (l : LayerIndex). l.head) layers sealed))
        (All-append (λ (head : Head). IsSizeFor named.exact n head.sectors) (heads_in layers) (heads_in sealed) m.sizes parts.sound.sizes);
    legal = λ some. parts.sound.stack (omega (arith, some, layers-length (files ++ done) (layers ++ sealed) all-are));
  }

  unlike : IfSome (pending_of parts.frozen) (λ uuid. Contains (map uuid_in (files ++ done)) uuid → ⊥)
  unlike = subst (λ (u : Option (List ℕ)). IfSome u (λ uuid. Contains (map uuid_in (files ++ done)) uuid → ⊥)) (sym parts.commit.uuid)
      (subst (λ (l : List (List ℕ)). IfSome named.pending (λ uuid. Contains l uuid → ⊥)) (same-uuids (files ++ done) (layers ++ sealed) all-are) parts.sound.unlike)

  sound : IsSound named.exact b
  sound = record {
    size = m.named_by.names.size;
    few = subst (λ (u : Option (List ℕ)). with_pending (length files + length done) u ≤ 255) (sym parts.commit.uuid)
        (subst (λ (k : ℕ). with_pending k named.pending ≤ 255) (let e : length layers + named.count ≡ length files + length done = omega (arith, long, layers-length files layers are) in e) m.named_by.names.few);
    stack = stack;
    unlike = unlike;
  }

  epoch-is : with_pending named.count named.pending ≡ shows.epoch_of b
  epoch-is = λ i. with_pending (sym long i) (sym parts.commit.uuid i)

  abbrev asked : HeadsAsked
  asked = heads_asked named.exact (shows.epoch_of b) files

  own-top : TopFits tells new n asked p.top parts.stand (parts.stand ∷ [])
  own-top = subst (λ (e : ℕ). TopFits tells new n (heads_asked named.exact e files) p.top parts.stand (parts.stand ∷ [])) epoch-is
      (subst (λ (u : Option (List ℕ)). TopFits tells new n (asked_of named.exact u) p.top parts.stand (parts.stand ∷ []))
      (parent-same (with_pending named.count named.pending) files layers are) parts.top.fits)

  base-is : IsBase b
  base-is = record {
    top_is = top-sheet tells new n asked (view_of p.top) parts.stand (parts.stand ∷ []) own-top m.named_by.names.size;
    frozen_is = parts.commit.sheet_is;
    layers = heads-layers (files ++ done) stack.heads stack.are;
    rising = stack-rising named.exact n (files ++ done) stack;
  }

  under : StackFits tells new named.exact n files done parts.frozen p.stack
  under = record {
    lowers_are = subst (AreLayersOf files) (sym (parts.commit.lowers ∙ lowers-is)) are;
    committed = subst (AreLayersOf done) (sym (parts.commit.committed ∙ committed-is)) also;
    sealed = done-whole tells one two new sealed read second third told_law;
    snapshot = subst (λ v. IsSnapshotOf (arc_value v) p.stack.lowers p.stack.committed.items) (sym parts.commit.snapshot)
        (subst (λ l. IsSnapshotOf (arc_value parts.before.snapshot) l p.stack.committed.items) (sym parts.commit.lowers)
        (subst (IsSnapshotOf (arc_value parts.before.snapshot) parts.before.lowers) (sym parts.commit.committed) parts.stack.snapshot));
    commit = parts.commit.fits files done (subst (AreLayersOf files) (sym lowers-is) are) (subst (AreLayersOf done) (sym committed-is) also);
    becomes = parts.commit.becomes;
    next = subst (NextsFit tells new n (length done) parts.frozen) (sym (parts.commit.next ∙ parts.stack.next)) tt;
  }

  quiet-before : two.seen ≡ old.seen
  quiet-before = seen-same one two second ∙ seen-same old one first

  frozen-told : IsTrue tells → (shown : ShowsFrozen (exact_said (body_in mark)) (length done) n files parts.frozen old.seen)
      × IsFrozenUnworn (exact_said (body_in mark)) (length done) n files parts.frozen old.seen shown
  frozen-told told =
      subst (λ (e : Bool). (shown : ShowsFrozen e (length done) n files parts.frozen old.seen) × IsFrozenUnworn e (length done) n files parts.frozen old.seen shown) m.named_by.exact
      (frozen-shows named.exact (length done) n files layers parts.frozen old.seen are
      (subst (λ (f : Files). IsFrozenRead named.exact (length done) n layers parts.frozen f) quiet-before
      (subst (λ (k : ℕ). IsFrozenRead named.exact k n layers parts.frozen two.seen) count-is
      (subst (λ (l : List LayerIndex). IsFrozenRead named.exact (length parts.before.committed.items) n l parts.frozen two.seen) lowers-is (parts.commit.shows told)))))

  top-told : IsTrue tells → IsShown n (heads_asked (exact_said (body_in mark)) (shows.epoch_of b) files) parts.stand (stored_in (shows.epoch_of b) old.seen)
  top-told told =
      subst (λ (f : Files). IsShown n (heads_asked (exact_said (body_in mark)) (shows.epoch_of b) files) parts.stand (stored_in (shows.epoch_of b) f)) quiet-before
      (subst (λ (e : Bool). IsShown n (heads_asked e (shows.epoch_of b) files) parts.stand (stored_in (shows.epoch_of b) two.seen)) m.named_by.exact
      (subst (λ (e : ℕ). IsShown n (heads_asked named.exact e files) parts.stand (stored_in e two.seen)) epoch-is
      (subst (λ (u : Option (List ℕ)). IsShown n (asked_of named.exact u) parts.stand (stored_in (with_pending named.count named.pending) two.seen))
      (parent-same (with_pending named.count named.pending) files layers are) (parts.top.shows told))))

  kept-now : IsKept new p.manifest
  kept-now = subst (IsKept new) (sym manifest_is)
      (λ c left. m.kept c (second.others.left mark.file c (λ none. none) (third.others.left mark.file c (λ none. none) left)))

  holds-one : (body : List ℕ) → MayHold p.manifest body → body ≡ body_in mark
  holds-one body may = m.bodies body (subst (λ (x : Mark). MayHold x body) manifest_is may)

  fits-now : PartsFit tells new p b (parts.stand ∷ []) []
  fits-now = record {
    exact = named.exact;
    sound = sound;
    manifest_is = ap file_of manifest_is ∙ m.file;
    manifest = kept-now;
    format = λ c may is. m.named_by.exact ∙ (ap exact_said (sym (holds-one c may)) ∙ is);
    named = λ c may. inl (subst (λ (x : List ℕ). Names x (length done) (pending_of parts.frozen) n) (sym (holds-one c may)) names);
    stack = under;
    epoch = parts.top.epoch_is ∙ epoch-is;
    top = own-top;
  }

  pub loaded : IsLoaded old files (record { tells = tells; state = new; faults = faults; parts = p })
  loaded = record {
    base = b;
    lowers_are = refl;
    faults_are = refl;
    shows = λ told. record {
      sequence = (m.shows told).sequence;
      body = body_in mark;
      manifest = (m.shows told).shows;
      names = names;
      sound = subst (λ (e : Bool). IsSound e b) m.named_by.exact sound;
      done = λ k below. sym (first.others.seen (sealed_file k) (λ none. none)) ∙ done-told tells one.seen sealed k told below;
      frozen = (frozen-told told).0;
      top = (top-told told).0;
    };
    unworn = λ told. record { manifest = (m.shows told).low; frozen = (frozen-told told).1; top = (top-told told).1 };
    untold = λ no.
        let committed : done ≡ blank_layers p.stack.committed.items =
        done-untold tells one.seen sealed no ∙ ap blank_layers (sym (parts.commit.committed ∙ committed-is)) in
        let frozen : parts.frozen ≡ blank_frozen (sectors_of p.top) (option_map commit_view p.stack.commit) =
        parts.commit.blank no ∙ ap (λ (k : ℕ). blank_frozen k (option_map commit_view p.stack.commit)) (sym parts.top.sectors) in
        let cells : parts.stand.cells ≡ blank_sheet (sectors_of p.top) (table_of p.top).segments =
        parts.top.blank no ∙ ap (λ (k : ℕ). blank_sheet k (table_of p.top).segments) (sym parts.top.sectors) in
        λ i. record {
          sectors = sym parts.top.sectors i;
          lowers = files;
          done = committed i;
          frozen = frozen i;
          top = cells i;
          rows = own-top.holds.rows_are i;
          filled = own-top.holds.filled_are i;
          faults = faults;
        };
    stands = record {
      base_is = base-is;
      few = record { top = top-few tells new n asked (view_of p.top) parts.stand (parts.stand ∷ []) own-top; frozen = parts.commit.few };
      proper = top-room tells new n asked (view_of p.top) parts.stand (parts.stand ∷ []) own-top;
      failed = omega arith;
      steps = parts.steps;
      low = omega (arith, parts.top.low);
      manifest_low = omega (arith, ap sequence_in manifest_is, m.low);
      tops = parts.stand ∷ [];
      attempts = [];
      fits = fits-now;
      kept = kept-one b [] parts.stand refl;
      blamed = All-nil (Blamed []);
    };
  }
