-- The canonical file of a sheet is that of a layer with the sheet.
use Rattle.std.proofs.Common.{◌≡◌, ◌≢◌, ℕ, suc, ◌+◌, ◌-◌, ◌*◌, ◌%◌, ◌^◌, ◌≤◌, List, [], ◌∷◌, ◌++◌, length, map, take, drop, Bool, true, false, cond, inl, inr, refl, sym, ap, ◌∙◌, subst, arith, append_assoc, length-append}
use Rattle.std.specs.List.{concat, flat_map}
use Rattle.std.specs.Int.{w32, w64, to_le_bytes}
use Rattle.std.specs.Prelude.{All, nat_lt, slice_set}
use Rattle.std.proofs.lemmas.List.{take_at, drop_at, length-replicate}
use Rattle.std.proofs.lemmas.List.Elements.{All-nil, All-head, All-tail}
use Rattle.std.proofs.lemmas.Str.{IsUtf8-nil}
use Rattle.seg_mapping.specs.declared.Row.{Row}
use Rattle.seg_mapping.specs.Rows.{spelling, RowOf}
use Rattle.lsmt_header.specs.declared.head.Head.{Head}
use Rattle.lsmt_header.specs.declared.head.Kind.TheVariants.{SealedHead, SealedEnd}
use Rattle.lsmt_header.specs.Blocks.{RawHead, IsSized, raw_block, raw_of, BlockOf, Fits, IsVersion, IsValid}
use Rattle.lsmt_header.proofs.BlockLemmas.{raw_of-sized, end_block}
use Rattle.flat_image.specs.Sheets.{Cell, IsSector, IsSheet}
use Rattle.flat_image.specs.RowCells.{AreLayerRows, AreSpelled}
use Rattle.flat_image.specs.CanonicalFiles.{stretches, parts_of, canonical_rows, sectors_of, canonical_index_at, canonical_head, padding_after, file_with, file_of}
use Rattle.flat_image.specs.LayerFiles.{whole_blocks, IsFramed, IsIndexPlace, LayerOf}
use Rattle.flat_image.specs.CanonicalLaws.{FileIsLayer}
use Rattle.flat_image.proofs.StretchLaws.{are-stretches, are-parts, short-parts}
use Rattle.flat_image.proofs.CanonicalRows.{whole-sectors_of, length-sectors_of, are-rows, IsRow, spelled-rows}
use Rattle.flat_image.proofs.CanonicalCells.{HasSectors, has-concat, cells-rows}

-- the lengths of the parts of a file
pub length-raw_block : (raw : RawHead) → IsSized raw → length (raw_block raw) ≡ 4096
unfolding raw_block
length-raw_block raw sized =
    let version : length (to_le_bytes w32 raw.version) ≡ 4 = refl in
    let flags : length (to_le_bytes w32 raw.flags) ≡ 4 = refl in
    let index_at : length (to_le_bytes w64 raw.index_at) ≡ 8 = refl in
    let rows : length (to_le_bytes w64 raw.rows) ≡ 8 = refl in
    let sectors : length (to_le_bytes w64 raw.sectors) ≡ 8 = refl in
    simp length-append (omega (arith, sized.magic, version, flags, index_at, rows, sectors, sized.uuid, sized.parent, sized.tag, sized.rest))

pub length-concat : (sectors : List (List ℕ)) → All IsSector sectors → length (concat sectors) ≡ 512 * length sectors
length-concat [] whole = refl
length-concat (sector ∷ sectors) whole =
    length-append sector (concat sectors)
    ∙ (let e : length sector + length (concat sectors) ≡ 512 * suc (length sectors) =
    omega (arith, All-head IsSector sector sectors whole, length-concat sectors (All-tail IsSector sector sectors whole)) in e)

pub length-spelling : (row : Row) → length (spelling row) ≡ 16
unfolding spelling
length-spelling row = refl

pub length-spellings : (rows : List Row) → length (concat (map spelling rows)) ≡ 16 * length rows
length-spellings [] = refl
length-spellings (row ∷ rows) =
    length-append (spelling row) (concat (map spelling rows))
    ∙ (let e : length (spelling row) + length (concat (map spelling rows)) ≡ 16 * suc (length rows) = omega (arith, length-spelling row, length-spellings rows) in e)

-- rows that are spelled one after another, behind as many bytes
pub spelled-concat : (front rest : List ℕ) (at : ℕ) (rows : List Row) → length front ≡ at → All IsRow rows → AreSpelled (front ++ (concat (map spelling rows) ++ rest)) at rows
spelled-concat front rest at [] long are = tt
spelled-concat front rest at (row ∷ rows) long are =
    let size : length (spelling row) ≡ 16 = length-spelling row in
    let behind : List ℕ = concat (map spelling rows) ++ rest in
    let joined : (spelling row ++ concat (map spelling rows)) ++ rest ≡ spelling row ++ behind = append_assoc (spelling row) (concat (map spelling rows)) rest in
    let here : take 16 (drop at (front ++ ((spelling row ++ concat (map spelling rows)) ++ rest))) ≡ spelling row =
    ap (take 16) (drop_at front ((spelling row ++ concat (map spelling rows)) ++ rest) at long) ∙ (ap (take 16) joined ∙ take_at (spelling row) behind 16 size) in (
      subst (λ (bytes : List ℕ). RowOf bytes row) (sym here) (All-head IsRow row rows are),
      subst (λ (file : List ℕ). AreSpelled file (at + 16) rows) (append_assoc front (spelling row) behind ∙ ap (λ (l : List ℕ). front ++ l) (sym joined))
          (spelled-concat (front ++ spelling row) rest (at + 16) rows (length-append front (spelling row) ∙ (let e : length front + length (spelling row) ≡ at + 16 = omega (arith, long, size) in e))
          (All-tail IsRow row rows are)),
    )

-- a file of such a head, data and rows is that of a layer
module _ (head : Head) (bytes : List ℕ) (rows : List Row) where
  abbrev front : List ℕ
  front = raw_block (raw_of head)

  abbrev padding : List ℕ
  padding = padding_after (head.index_at + 16 * head.rows)

  abbrev end : List ℕ
  end = raw_block (raw_of (record head { kind = SealedEnd }))

  -- the parts, from the front and from the end
  file-front : file_with head bytes rows ≡ front ++ (bytes ++ (concat (map spelling rows) ++ (padding ++ end)))
  unfolding file_with
  file-front =
      append_assoc (front ++ bytes ++ concat (map spelling rows)) padding end
      ∙ (append_assoc (front ++ bytes) (concat (map spelling rows)) (padding ++ end)
      ∙ append_assoc front bytes (concat (map spelling rows) ++ (padding ++ end)))

  file-rows : file_with head bytes rows ≡ (front ++ bytes) ++ (concat (map spelling rows) ++ (padding ++ end))
  unfolding file_with
  file-rows =
      append_assoc (front ++ bytes ++ concat (map spelling rows)) padding end
      ∙ append_assoc (front ++ bytes) (concat (map spelling rows)) (padding ++ end)

  file-end : file_with head bytes rows ≡ (front ++ bytes ++ concat (map spelling rows) ++ padding) ++ end
  unfolding file_with
  file-end = refl

  module _ (kind : head.kind ≡ SealedHead) (valid : IsValid head) (fits : Fits head) where
    of_head : BlockOf front head
    of_head = record { spelled = refl; valid = valid; fits = fits }

    of_end : BlockOf (slice_set front 12 6) (record head { kind = SealedEnd })
    of_end = end_block front head kind of_head

    pub length-front : length front ≡ 4096
    length-front = length-raw_block (raw_of head) (raw_of-sized head valid fits)

    length-end : length end ≡ 4096
    length-end = length-raw_block (raw_of (record head { kind = SealedEnd })) (raw_of-sized (record head { kind = SealedEnd }) of_end.valid of_end.fits)

    pub length-file : length (file_with head bytes rows) ≡ 8192 + (length bytes + (16 * length rows + length padding))
    length-file =
        ap (length {A = ℕ}) file-front
        ∙ simp length-append (omega (arith, length-front, length-end, length-spellings rows))

    take-file : take 4096 (file_with head bytes rows) ≡ front
    take-file = ap (take 4096) file-front ∙ take_at front (bytes ++ (concat (map spelling rows) ++ (padding ++ end))) 4096 length-front

    drop-file : drop (length (file_with head bytes rows) - 4096) (file_with head bytes rows) ≡ end
    drop-file =
        ap (drop (length (file_with head bytes rows) - 4096)) file-end
        ∙ drop_at (front ++ bytes ++ concat (map spelling rows) ++ padding) end (length (file_with head bytes rows) - 4096)
        (let e : length (front ++ bytes ++ concat (map spelling rows) ++ padding) + length end ≡ length (file_with head bytes rows) =
        sym (length-append (front ++ bytes ++ concat (map spelling rows) ++ padding) end) ∙ ap (length {A = ℕ}) (sym file-end) in omega (arith, e, length-end))

    pub framed-file : IsFramed (file_with head bytes rows) head
    framed-file = record {
      long = omega (arith, length-file);
      front = subst (λ (block : List ℕ). BlockOf block head) (sym take-file) of_head;
      kind = kind;
      end = drop-file ∙ (sym of_end.spelled ∙ ap (λ (block : List ℕ). slice_set block 12 6) (sym take-file));
    }

    module _ (index : head.index_at ≡ 4096 + length bytes) (count : length rows ≡ head.rows) where
      pub index-file : head.index_at % 512 ≡ 0 → IsIndexPlace (length (file_with head bytes rows)) head.index_at head.rows
      index-file whole = record {
        from = omega (arith, index);
        whole = whole;
        end = let pad : length padding ≡ whole_blocks (head.index_at + 16 * head.rows) - (head.index_at + 16 * head.rows) = length-replicate _ 0 in
            omega (arith, length-file, index, count, pad);
      }

      pub spelled-file : All IsRow rows → AreSpelled (file_with head bytes rows) head.index_at rows
      spelled-file are =
          subst (λ (file : List ℕ). AreSpelled file head.index_at rows) (sym file-rows)
          (spelled-concat (front ++ bytes) (padding ++ end) head.index_at rows (length-append front bytes ∙ (let e : length front + length bytes ≡ head.index_at = omega (arith, length-front, index) in e)) are)

      pub layer-file : head.index_at % 512 ≡ 0 → head.rows ≤ 2 ^ 24 → All IsRow rows → AreLayerRows head.sectors head.index_at 0 rows → LayerOf (file_with head bytes rows) head rows
      layer-file whole few are sound = record {
        framed = framed-file;
        few = few;
        index = index-file whole;
        count = count;
        spelled = spelled-file are;
        sound = sound;
      }

-- its version is 1 or 2
version_is : (taller : Bool) → IsVersion SealedHead (cond taller 2 1)
version_is true = inr (tt, refl)
version_is false = inl refl

-- the canonical file of a sheet
pub file-is_layer : (n : ℕ) (uuid parent : List ℕ) (below : ℕ) (sheet : List Cell) → FileIsLayer n uuid parent below sheet
file-is_layer n uuid parent below sheet can =
    let head : Head = canonical_head uuid parent below sheet in
    let sectors : List (List ℕ) = sectors_of sheet in
    let bytes : List ℕ = concat sectors in
    let rows : List Row = canonical_rows sheet in
    let is : IsSheet n sheet = can.sheet_is in
    let whole : All IsSector sectors = whole-sectors_of sheet is.cells in
    let size : length bytes ≡ 512 * length sectors = length-concat sectors whole in
    let parts = are-parts 0 sheet (stretches 0 sheet) (are-stretches 0 sheet) in
    let sound : AreLayerRows (length sheet) (canonical_index_at sheet) 0 rows =
    are-rows (length sheet) (canonical_index_at sheet) 0 8 sheet (flat_map parts_of (stretches 0 sheet)) parts (short-parts (stretches 0 sheet))
    (omega arith) (omega (arith, is.few, is.count)) (omega arith) (omega arith) (omega arith) in
    let spelled : All IsRow rows = spelled-rows (length sheet) (canonical_index_at sheet) 0 8 (flat_map parts_of (stretches 0 sheet)) sound in
    let valid : IsValid head = record { version = version_is (nat_lt below (length sheet)); size = (omega (arith, is.some, is.count), omega (arith, is.few, is.count)); named = λ sealed. can.named } in
    let filled : length sectors ≤ length sheet = length-sectors_of sheet in
    let fits : Fits head = record {
      index_at = omega (arith, filled, is.few, is.count);
      rows = omega (arith, can.few);
      uuid = can.long;
      parent = can.parent_long;
      tag = record { short = omega arith; utf8 = IsUtf8-nil; no_zero = All-nil (λ byte. byte ≢ 0) };
    } in
    let front : List ℕ = raw_block (raw_of head) in
    let has : HasSectors (file_of uuid parent below sheet) 8 sectors =
    subst (λ (file : List ℕ). HasSectors file 8 sectors) (sym (file-front head bytes rows))
    (has-concat front (concat (map spelling rows) ++ (padding head bytes rows ++ end head bytes rows)) 8 sectors (length-front head bytes rows refl valid fits) whole) in
    record {
      rows = rows;
      layer = layer-file head bytes rows refl valid fits (omega (arith, size)) refl (omega arith) can.few spelled sound;
      sheet_is = sym (cells-rows (file_of uuid parent below sheet) (length sheet) (canonical_index_at sheet) 0 8 sheet (flat_map parts_of (stretches 0 sheet)) parts sound has);
    }
