-- What holds in memory of an image that stands for a history.
use Rattle.std.proofs.Common.{◌≡◌, ℕ, ◌+◌, ◌*◌, ◌^◌, ◌<◌, ◌≤◌, Bool, IsTrue, List, [], ◌∷◌, ◌++◌, length, refl, sym, ap, ◌∙◌, subst, arith}
use Rattle.std.specs.Prelude.{Option, Some, None}
use Rattle.std.specs.Vec.{vec_len, vec_capacity}
use Rattle.std.specs.Arc.{arc_value}
use Rattle.seg_table.specs.Cells.{cells_of}
use Rattle.gate_mark.specs.Mark.{file_of}
use Rattle.flat_image.specs.declared.base.Base.{Base}
use Rattle.flat_image.specs.declared.act.Asked.{Asked}
use Rattle.flat_image.specs.Base.{pending_of, IsBase}
use Rattle.flat_image.specs.CanonicalFiles.{canonical_rows}
use Rattle.flat_image.specs.History.{History, now}
use Rattle.flat_image.specs.Left.{Stand, stand}
use Rattle.flat_image.proofs.HistoryLaws.{base-stays}
use Rattle.layer_commit.specs.Fitting as seals
use Rattle.layer_commit.specs.Gathered.{ArePlaces}
use Rattle.layer_commit.specs.Sources.{table_sheet}
use Rattle.layer_commit.specs.View.{pieces_of}
use Rattle.top_writer.specs.View.{view_of, table_of, sectors_of}
use Rattle.image_core.specs.declared.parts.Commit.{Commit}
use Rattle.image_core.specs.Numbers.{manifest_file, with_pending}
use Rattle.image_core.specs.Parts.{PartsFit}
use Rattle.image_core.specs.Pieces.{IsSnapshotOf}
use Rattle.image_core.specs.Shows as shows
use Rattle.image_core.specs.Shows.{heads_asked}
use Rattle.image_core.specs.Seen.{Seen, StandsFor, IsImage}
use Rattle.image_core.proofs.Copies.{frozen-some}
use Rattle.image_core.proofs.FrozenTops.{own-places, own-rows}
use Rattle.image_core.proofs.SheetsRead.{layers-length}

at-most : (count : ℕ) (pending : Option (List ℕ)) → with_pending count pending ≤ 255 → count ≤ 255
at-most count None few = few
at-most count (Some uuid) few = omega (arith, few)

-- it has at most 255 layers,
pub image-few : (x : Seen) → IsImage x → length x.parts.stack.lowers + length x.parts.stack.committed.items ≤ 255
image-few x (base, history, k) =
    let b : Base = now base history in
    let few = at-most (length b.lowers + length b.done) (pending_of b.frozen) k.fits.sound.few in
    omega (arith, few, layers-length b.lowers x.parts.stack.lowers k.fits.stack.lowers_are, layers-length b.done x.parts.stack.committed.items k.fits.stack.committed)

-- the places of its table are low, and the sheet of the table has few rows,
pub image-places : (x : Seen) → IsImage x → ArePlaces (cells_of (table_of x.parts.top))
image-places x (base, history, k) =
    let b : Base = now base history in
    own-places x.tells x.state b.sectors (heads_asked k.fits.exact (shows.epoch_of b) b.lowers) (view_of x.parts.top) (stand b) k.tops k.fits.top (table_of x.parts.top) refl

pub image-rows : (x : Seen) → IsImage x → (stored : List ℕ) × (length (canonical_rows (table_sheet stored (sectors_of x.parts.top) (table_of x.parts.top))) ≤ 2 ^ 24)
image-rows x (base, history, k) =
    let b : Base = now base history in
    let good = base-stays base history k.base_is k.few k.proper in
    subst (λ (n : ℕ). (stored : List ℕ) × (length (canonical_rows (table_sheet stored n (table_of x.parts.top))) ≤ 2 ^ 24)) (sym k.fits.top.holds.sectors)
    (own-rows x.tells x.state b.sectors (heads_asked k.fits.exact (shows.epoch_of b) b.lowers) (view_of x.parts.top) (stand b) k.tops k.fits.top (table_of x.parts.top) refl
    good.1.top k.fits.sound.size.1)

-- and of a commit in progress all that its file asks for, and room for its layer
pub image-sealing : (x : Seen) (c : Commit) → x.parts.stack.commit ≡ Some c → IsImage x → seals.IsFitted x.tells x.state c.sealing
image-sealing x c held (base, history, k) =
    let b : Base = now base history in
    let own = frozen-some x.tells x.state k.fits.exact b.sectors b.lowers b.done b.frozen x.parts.stack.commit c held k.fits.stack.commit in
    (own.2.stored, own.2.sealing)

pub image-done : (x : Seen) (c : Commit) → x.parts.stack.commit ≡ Some c → IsImage x → pieces_of c.sealing ≤ c.sealing.done → c.sealing.done ≡ pieces_of c.sealing
image-done x c held (base, history, k) most =
    let b : Base = now base history in
    let own = frozen-some x.tells x.state k.fits.exact b.sectors b.lowers b.done b.frozen x.parts.stack.commit c held k.fits.stack.commit in
    let sound = own.2.sealing.sound.done in
    omega (arith, sound, most)

pub image-room : (x : Seen) (c : Commit) → x.parts.stack.commit ≡ Some c → IsImage x → vec_len x.parts.stack.committed < vec_capacity x.parts.stack.committed
image-room x c held (base, history, k) = (k.fits.stack.becomes c held).room

pub image-snapshot : (x : Seen) → IsImage x → IsSnapshotOf (arc_value x.parts.stack.snapshot) x.parts.stack.lowers x.parts.stack.committed.items
image-snapshot x (base, history, k) = k.fits.stack.snapshot

-- its manifest is the file of that number,
pub image-manifest : (x : Seen) → IsImage x → file_of x.parts.manifest ≡ manifest_file
image-manifest x (base, history, k) = k.fits.manifest_is

-- and what it is made of is a base that its parts fit
pub image-fits : (x : Seen) → IsImage x → (b : Base) × (tops : List Stand) × (attempts : List Asked) × IsBase b × PartsFit x.tells x.state x.parts b tops attempts
image-fits x (base, history, k) = (now base history, k.tops, k.attempts, (base-stays base history k.base_is k.few k.proper).0, k.fits)
