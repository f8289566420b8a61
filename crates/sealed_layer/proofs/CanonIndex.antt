-- The head and the rows of a canonical file are those of a layer, also where the sectors of its sheet are not looked at.
use Rattle.std.proofs.Common.{◌≡◌, ◌≢◌, ℕ, ◌+◌, ◌*◌, ◌^◌, ◌<◌, ◌≤◌, Bool, true, false, cond, nat_lt, List, [], ◌∷◌, length, refl, subst, arith, inl, inr}
use Rattle.std.specs.List.{flat_map}
use Rattle.std.specs.Prelude.{All}
use Rattle.std.proofs.lemmas.List.Elements.{All-nil, All-cons, All-head, All-tail}
use Rattle.std.proofs.lemmas.Str.{IsUtf8-nil}
use Rattle.seg_mapping.specs.declared.Row.{Row}
use Rattle.seg_mapping.specs.Rows.{Fits}
use Rattle.lsmt_header.specs.declared.head.Kind.TheVariants.{SealedHead}
use Rattle.lsmt_header.specs.Blocks.{nil, IsSize, IsVersion}
use Rattle.flat_image.specs.Sheets.{Cell}
use Rattle.flat_image.specs.RowCells.{AreLayerRows}
use Rattle.flat_image.specs.CanonicalFiles.{stretches, parts_of, canonical_rows, canonical_head, canonical_index_at, sectors_of}
use Rattle.flat_image.proofs.StretchLaws.{are-stretches, are-parts, short-parts}
use Rattle.flat_image.proofs.CanonicalRows.{are-rows, spelled-rows, length-sectors_of, IsRow}
use Rattle.sealed_layer.specs.Layers.{IsTagged, IsLayerIndex}

version_is : (taller : Bool) → IsVersion SealedHead (cond taller 2 1)
version_is true = inr (tt, refl)
version_is false = inl refl

fits_of : (rows : List Row) → All IsRow rows → All Fits rows
fits_of [] are = All-nil Fits
fits_of (row ∷ rows) are = All-cons Fits row rows (All-head IsRow row rows are).fits (fits_of rows (All-tail IsRow row rows are))

tags_of : (rows : List Row) → All IsRow rows → All IsTagged rows
tags_of [] are = All-nil IsTagged
tags_of (row ∷ rows) are = All-cons IsTagged row rows (All-head IsRow row rows are).tag (tags_of rows (All-tail IsRow row rows are))

pub canonical-index : (n : ℕ) (uuid parent : List ℕ) (below : ℕ) (sheet : List Cell) → length uuid ≡ 16 → uuid ≢ nil → length parent ≡ 16 → IsSize n → length sheet ≡ n
    → length (canonical_rows sheet) ≤ 2 ^ 24 → IsLayerIndex (canonical_head uuid parent below sheet) (canonical_rows sheet)
canonical-index n uuid parent below sheet long named parent_long size count few =
    let parts = are-parts 0 sheet (stretches 0 sheet) (are-stretches 0 sheet) in
    let filled : length (sectors_of sheet) ≤ length sheet = length-sectors_of sheet in
    let sound : AreLayerRows (length sheet) (canonical_index_at sheet) 0 (canonical_rows sheet) =
    are-rows (length sheet) (canonical_index_at sheet) 0 8 sheet (flat_map parts_of (stretches 0 sheet)) parts (short-parts (stretches 0 sheet))
    (omega arith) (omega (arith, size.1, count)) (omega arith) (omega arith) (omega arith) in
    let rows_are : All IsRow (canonical_rows sheet) = spelled-rows (length sheet) (canonical_index_at sheet) 0 8 (flat_map parts_of (stretches 0 sheet)) sound in
    record {
      kind = refl;
      valid = record { version = version_is (nat_lt below (length sheet)); size = (omega (arith, size.0, count), omega (arith, size.1, count)); named = λ sealed. named };
      sized = record {
        index_at = omega (arith, filled, size.1, count);
        rows = omega (arith, few);
        uuid = long;
        parent = parent_long;
        tag = record { short = omega arith; utf8 = IsUtf8-nil; no_zero = All-nil (λ byte. byte ≢ 0) };
      };
      from = omega arith;
      whole = omega arith;
      index_at = omega (arith, filled, size.1, count);
      few = few;
      count = refl;
      fits = fits_of (canonical_rows sheet) rows_are;
      tags = tags_of (canonical_rows sheet) rows_are;
      sound = sound;
    }
