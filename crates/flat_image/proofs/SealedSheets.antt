-- Along a proper history each sheet that is sealed has few stretches, and so its file is that of a layer with the sheet.
use Rattle.std.proofs.Common.{◌≡◌, ℕ, ◌-◌, ◌*◌, ◌^◌, ◌≤◌, false, true, List, [], ◌∷◌, ◌++◌, length, map, refl, sym, ap, ◌∙◌, subst, arith}
use Rattle.std.proofs.Math.ListN.{replicate}
use Rattle.std.proofs.lemmas.List.{length-map, length-replicate}
use Rattle.std.proofs.lemmas.List.Elements.{All-nil, All-cons, All-head, All-tail, All-replicate}
use Rattle.std.specs.Prelude.{All, Some, IfSome}
use Rattle.sector_extent.specs.Rows.{rows_for}
use Rattle.flat_image.specs.declared.act.Act.{Act}
use Rattle.flat_image.specs.declared.act.Act.TheVariants.{Read, Write, Zero, Flush, Freeze, Seal, Grow, Fault}
use Rattle.flat_image.specs.declared.base.Base.{Base}
use Rattle.flat_image.specs.Sheets.{Cell, Filled, IsSector}
use Rattle.flat_image.specs.Sheets as sheets
use Rattle.flat_image.specs.Sectors.{sector_count, sectors_in}
use Rattle.flat_image.specs.Frozen.{Frozen}
use Rattle.flat_image.specs.CanonicalFiles.{stretches, canonical_head, file_of}
use Rattle.lsmt_header.specs.Blocks.{nil}
use Rattle.flat_image.specs.LayerReading.{uuid_in, IsLayer}
use Rattle.flat_image.specs.Stacks.{uppermost}
use Rattle.flat_image.specs.Stretches.{IsOf}
use Rattle.flat_image.specs.Base.{fresh, top_uuid, top_size, IsLayerFile, IsFrozen, IsBase, HasFewStretches}
use Rattle.flat_image.specs.History.{step, HasRoom}
use Rattle.flat_image.specs.HistoryLaws.{SheetsBecomeLayers}
use Rattle.flat_image.proofs.Painting.{length-sectors_in}
use Rattle.flat_image.proofs.LayerLaws.{uuid_in-layer}
use Rattle.flat_image.proofs.StretchCounts.{few-rows, stretches-change, stretches-holes, stretches-more_holes}
use Rattle.flat_image.proofs.CanonicalBytes.{file-is_layer}

-- the uuid of the uppermost layer has its length
uppermost-long : (uuid : List ℕ) (files : List (List ℕ)) → length uuid ≡ 16 → All IsLayerFile files → length (uppermost uuid (map uuid_in files)) ≡ 16
uppermost-long uuid [] long are = long
uppermost-long uuid (file ∷ files) long are =
    let here : IsLayerFile file = All-head IsLayerFile file files are in
    uppermost-long (uuid_in file) files
    (ap (length {A = ℕ}) (uuid_in-layer file here.0 here.1.sheet here.1.layer) ∙ here.1.layer.layer.framed.front.fits.uuid)
    (All-tail IsLayerFile file files are)

pub length-top_uuid : (files : List (List ℕ)) → All IsLayerFile files → length (top_uuid files) ≡ 16
length-top_uuid files are = uppermost-long nil files (length-replicate {A = ℕ} 16 0) are

-- the file of what is frozen is that of a layer with the frozen sheet
pub becomes-layer : (b : Base) → SheetsBecomeLayers b
becomes-layer b f is base few =
    let parent : List ℕ = top_uuid (b.lowers ++ b.done) in
    let frozen : IsFrozen b.sectors f = subst (λ o. IfSome o (IsFrozen b.sectors)) is base.frozen_is in
    let short : length (stretches 0 f.sheet) ≤ 2 ^ 23 = subst (λ o. IfSome o (λ (g : Frozen). length (stretches 0 g.sheet) ≤ 2 ^ 23)) is few.frozen in
    file-is_layer b.sectors f.uuid parent (top_size (length f.sheet) (b.lowers ++ b.done)) f.sheet (record {
      long = frozen.long;
      named = frozen.named;
      parent_long = length-top_uuid (b.lowers ++ b.done) base.layers;
      sheet_is = frozen.sheet_is;
      few = few-rows f.sheet (omega (arith, frozen.sheet_is.count, frozen.sheet_is.few)) short;
    })

-- the file of a frozen sheet, over the layers of the base
abbrev pub sealed_file : Base → Frozen → List ℕ
sealed_file base f = file_of f.uuid (top_uuid (base.lowers ++ base.done)) (top_size (length f.sheet) (base.lowers ++ base.done)) f.sheet

abbrev pub SealsLayer : Base → Type 0
SealsLayer base = (f : Frozen) → base.frozen ≡ Some f → IsLayer base.sectors f.uuid f.sheet (sealed_file base f)

pub seals-layer : (b : Base) → IsBase b → HasFewStretches b → SealsLayer b
seals-layer b base few f is =
    let frozen : IsFrozen b.sectors f = subst (λ o. IfSome o (IsFrozen b.sectors)) is base.frozen_is in
    record {
      head = canonical_head f.uuid (top_uuid (b.lowers ++ b.done)) (top_size (length f.sheet) (b.lowers ++ b.done)) f.sheet;
      layer = becomes-layer b f is base few;
      size = frozen.sheet_is.count;
      named = refl;
    }

all-filled : (sectors : List (List ℕ)) → All (IsOf false) (map Filled sectors)
all-filled [] = All-nil (IsOf false)
all-filled (sector ∷ sectors) = All-cons (IsOf false) (Filled sector) (map Filled sectors) refl (all-filled sectors)

-- each act keeps the stretches few
pub few-step : (b : Base) (act : Act) → HasFewStretches b → HasRoom b.rows b.filled → HasFewStretches (step b act)
few-step b (Read at count) few room = few
few-step b (Write at bytes) few room = record {
  top =
      let new : List Cell = map Filled (sectors_in bytes) in
      let size : length new ≡ sector_count bytes = length-map (sectors_in bytes) Filled ∙ length-sectors_in bytes in
      let rows : rows_for (length new) ≡ rows_for (sector_count bytes) = ap rows_for size in
      let more = stretches-change at false new b.top (all-filled (sectors_in bytes)) in
      omega (arith, more, rows, few.top);
  frozen = few.frozen;
}
few-step b (Zero at count) few room = record {
  top =
      let new : List Cell = replicate count sheets.Zero in
      let rows : rows_for (length new) ≡ rows_for count = ap rows_for (length-replicate count sheets.Zero) in
      let more = stretches-change at true new b.top (All-replicate (IsOf true) count sheets.Zero refl) in
      omega (arith, more, rows, few.top);
  frozen = few.frozen;
}
few-step b Flush few room = few
few-step b (Freeze uuid) few room = record {
  top = subst (λ list. length list ≤ 2 * 0) (sym (stretches-holes 0 b.sectors)) (omega arith);
  frozen = omega (arith, few.top, room.rows_fit);
}
few-step b (Seal uuid) few room = record { top = few.top; frozen = tt }
few-step b (Grow sectors) few room = record {
  top = subst (λ list. length list ≤ 2 * b.rows) (sym (stretches-more_holes 0 b.top (sectors - length b.top))) few.top;
  frozen = few.frozen;
}
few-step b (Fault asked) few room = few

-- an image in which nothing was written has none
pub fresh-few : (n : ℕ) (lowers : List (List ℕ)) → HasFewStretches (fresh n lowers)
fresh-few n lowers = record { top = subst (λ list. length list ≤ 2 * 0) (sym (stretches-holes 0 n)) (omega arith); frozen = tt }
