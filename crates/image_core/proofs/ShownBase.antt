-- What files show is a base with few stretches, and one at most.
use Rattle.std.proofs.Common.{◌≡◌, ◌≢◌, ℕ, ◌≤◌, ◌^◌, List, [], ◌∷◌, ◌++◌, length, drop, refl, sym, ap, ◌∙◌, subst, arith}
use Rattle.std.specs.Prelude.{Bool, Option, Some, None, IfSome}
use Rattle.std.proofs.lemmas.List.{length-take-le, length-drop, ext_get_or}
use Rattle.block_disk.specs.DiskState.{Files}
use Rattle.lsmt_header.specs.Blocks.{nil}
use Rattle.flat_image.specs.declared.base.Base.{Base}
use Rattle.flat_image.specs.Frozen.{Frozen}
use Rattle.flat_image.specs.CanonicalFiles.{stretches}
use Rattle.flat_image.specs.Base.{pending_of, IsFrozen}
use Rattle.flat_image.specs.Left.{Stand, stand}
use Rattle.top_writer.specs.Files.{stored_in, HeadsAsked}
use Rattle.image_core.specs.Numbers.{manifest_file, with_pending}
use Rattle.image_core.specs.Manifest.{count_said, uuid_said, size_said, exact_said, uuid_or_nil}
use Rattle.image_core.specs.Shows.{epoch_of, heads_asked, ShowsStand, ShowsFrozen}
use Rattle.image_core.specs.Laws.{ShowsABase, ShowsOneBase}
use Rattle.image_core.proofs.Sizes.{heads-layers, stack-rising}
use Rattle.image_core.proofs.TopShown.{shown-sheet, shown-few, one-body, length-body, one-top}

length-uuid : (body : List ℕ) → length body ≡ 48 → length (uuid_said body) ≡ 16
unfolding uuid_said
length-uuid body long = length-take-le 16 (drop 16 body) (omega (arith, length-drop 16 body, long))

frozen-shown : (exact : Bool) (epoch n : ℕ) (lowers : List (List ℕ)) (frozen : Option Frozen) (files : Files) (uuid : List ℕ) → 1 ≤ n → n ≤ 2 ^ 31
    → ShowsFrozen exact epoch n lowers frozen files → uuid ≡ uuid_or_nil (pending_of frozen) → length uuid ≡ 16 → IfSome (pending_of frozen) (λ u. u ≢ nil)
    → IfSome frozen (IsFrozen n) × IfSome frozen (λ f. length (stretches 0 f.sheet) ≤ 2 ^ 23)
frozen-shown exact epoch n lowers None files uuid some few shows is long named = (tt, tt)
frozen-shown exact epoch n lowers (Some f) files uuid some few shows is long named =
    let s : Stand = record { cells = f.sheet; rows = shows.rows; filled = shows.filled } in (
      record { long = ap (length {A = ℕ}) (sym is) ∙ long; named = named; sheet_is = shown-sheet n (heads_asked exact epoch lowers) s (stored_in epoch files) shows.shows some few },
      omega (arith, shown-few n (heads_asked exact epoch lowers) s (stored_in epoch files) shows.shows, shows.shows.counts.room.rows_fit),
    )

pub shows-a_base : (files : Files) (base : Base) → ShowsABase files base
shows-a_base files base shows =
    let long : length shows.body ≡ 48 = length-body (files manifest_file) shows.sequence shows.body shows.manifest in
    let frozen = frozen-shown (exact_said shows.body) (length base.done) base.sectors base.lowers base.frozen files (uuid_said shows.body) shows.sound.size.0 shows.sound.size.1 shows.frozen shows.names.uuid
    (length-uuid shows.body long) shows.names.named in
    let asked : HeadsAsked = heads_asked (exact_said shows.body) (epoch_of base) base.lowers in (
      record {
        top_is = shown-sheet base.sectors asked (stand base) (stored_in (epoch_of base) files) shows.top shows.sound.size.0 shows.sound.size.1;
        frozen_is = frozen.0;
        layers = heads-layers (base.lowers ++ base.done) shows.sound.stack.heads shows.sound.stack.are;
        rising = stack-rising (exact_said shows.body) base.sectors (base.lowers ++ base.done) shows.sound.stack;
      },
      record { top = shown-few base.sectors asked (stand base) (stored_in (epoch_of base) files) shows.top; frozen = frozen.1 },
    )

-- one commit in progress, and one frozen sheet
one-pending : (p q : Option (List ℕ)) → uuid_or_nil p ≡ uuid_or_nil q → IfSome p (λ u. u ≢ nil) → IfSome q (λ u. u ≢ nil) → p ≡ q
one-pending None None same named other = refl
one-pending None (Some u) same named other = absurd (other (sym same))
one-pending (Some u) None same named other = absurd (named same)
one-pending (Some u) (Some v) same named other = ap (λ (x : List ℕ). Some x) same

one-frozen : (exact exact' : Bool) (epoch n : ℕ) (lowers lowers' : List (List ℕ)) (f g : Option Frozen) (files : Files) → pending_of f ≡ pending_of g
    → ShowsFrozen exact epoch n lowers f files → ShowsFrozen exact' epoch n lowers' g files → f ≡ g
one-frozen exact exact' epoch n lowers lowers' None None files same shows other = refl
one-frozen exact exact' epoch n lowers lowers' None (Some g) files same shows other = absurd (let e : None ≡ Some g.uuid = same in cc)
one-frozen exact exact' epoch n lowers lowers' (Some f) None files same shows other = absurd (let e : Some f.uuid ≡ None = same in cc)
one-frozen exact exact' epoch n lowers lowers' (Some f) (Some g) files same shows other =
    let uuid : f.uuid ≡ g.uuid = cc in
    let tops = one-top n (heads_asked exact epoch lowers) (heads_asked exact' epoch lowers') (record { cells = f.sheet; rows = shows.rows; filled = shows.filled })
    (record { cells = g.sheet; rows = other.rows; filled = other.filled }) (stored_in epoch files) shows.shows other.shows in
    let sheet : f.sheet ≡ g.sheet = ap (λ (s : Stand). s.cells) tops in
    λ i. Some (record { uuid = uuid i; sheet = sheet i })

pub shows-one_base : (files : Files) (base other : Base) → ShowsOneBase files base other
shows-one_base files base other shows others lowers faults =
    let body : shows.body ≡ others.body = one-body (files manifest_file) shows.sequence others.sequence shows.body others.body shows.manifest others.manifest in
    let sectors : base.sectors ≡ other.sectors = sym shows.names.size ∙ (ap size_said body ∙ others.names.size) in
    let count : length base.done ≡ length other.done = sym shows.names.count ∙ (ap count_said body ∙ others.names.count) in
    let done : base.done ≡ other.done =
    ext_get_or [] base.done other.done count (λ k below. sym (shows.done k below) ∙ others.done k (omega (arith, below, count))) in
    let pending : pending_of base.frozen ≡ pending_of other.frozen =
    one-pending (pending_of base.frozen) (pending_of other.frozen) (sym shows.names.uuid ∙ (ap uuid_said body ∙ others.names.uuid)) shows.names.named others.names.named in
    let frozen : base.frozen ≡ other.frozen =
    one-frozen (exact_said shows.body) (exact_said others.body) (length base.done) base.sectors base.lowers other.lowers base.frozen other.frozen files pending shows.frozen
    (subst (λ k. ShowsFrozen (exact_said others.body) k base.sectors other.lowers other.frozen files) (sym count) (subst (λ m. ShowsFrozen (exact_said others.body) (length other.done) m other.lowers other.frozen files) (sym sectors) others.frozen)) in
    let epoch : epoch_of base ≡ epoch_of other = λ i. with_pending (count i) (pending i) in
    let top : stand base ≡ stand other =
    one-top base.sectors (heads_asked (exact_said shows.body) (epoch_of base) base.lowers) (heads_asked (exact_said others.body) (epoch_of base) other.lowers) (stand base) (stand other) (stored_in (epoch_of base) files) shows.top
    (subst (λ k. ShowsStand (exact_said others.body) k base.sectors other.lowers (stand other) files) (sym epoch) (subst (λ m. ShowsStand (exact_said others.body) (epoch_of other) m other.lowers (stand other) files) (sym sectors) others.top)) in
    λ i. record {
      sectors = sectors i;
      lowers = lowers i;
      done = done i;
      frozen = frozen i;
      top = (top i).cells;
      rows = (top i).rows;
      filled = (top i).filled;
      faults = faults i;
    }
