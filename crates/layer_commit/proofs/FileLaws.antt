-- The length of the file, and its parts.
use Rattle.std.proofs.Common.{◌≡◌, ℕ, ◌+◌, ◌-◌, ◌*◌, ◌/◌, ◌≤◌, List, [], ◌∷◌, ◌++◌, length, take, map, refl, sym, ap, ◌∙◌, arith, length-append, get_or}
use Rattle.std.specs.List.{concat}
use Rattle.std.proofs.lemmas.List.{length-replicate, length-take, get_or-take}
use Rattle.std.proofs.lemmas.List.Elements.{All-head, All-tail, All-nil, All-cons}
use Rattle.block_disk.specs.Changes.{piece}
use Rattle.block_disk.specs.Pieces.{length-piece, same_piece}
use Rattle.seg_mapping.specs.Rows.{spelling}
use Rattle.seg_mapping.specs.declared.Row.{Row}
use Rattle.lsmt_header.specs.declared.head.Head.{Head}
use Rattle.lsmt_header.specs.declared.head.Kind.TheVariants.{SealedEnd}
use Rattle.lsmt_header.specs.Blocks.{raw_block, raw_of}
use Rattle.flat_image.specs.CanonicalFiles.{file_with, padding_after}
use Rattle.flat_image.specs.LayerFiles.{whole_blocks, LayerOf}
use Rattle.layer_commit.specs.Laying.{Lays}
use Rattle.layer_commit.proofs.LayLaws.{lays_next, lays_whole}
use Rattle.flat_image.proofs.CanonicalBytes.{length-file, length-front, length-spellings, layer-file}
use Rattle.sealed_layer.proofs.BlankFile.{rows-are}
use Rattle.layer_commit.specs.declared.source.Source.{Source}
use Rattle.layer_commit.specs.Sources.{copied, counted, AreWithin}
use Rattle.layer_commit.specs.Fitting.{IsSound}
use Rattle.layer_commit.specs.View.{SealView, file_by, length_of}
use Rattle.sealed_layer.specs.Layers.{IsLayerIndex}

abbrev pub IsLong : List ℕ → Source → Type 0
IsLong stored source = 512 * (source.from + source.count) ≤ length stored

pub length-copied : (stored : List ℕ) (sources : List Source) → AreWithin stored sources → length (copied stored sources) ≡ 512 * counted sources
length-copied stored [] within = refl
length-copied stored (source ∷ rest) within =
    let here : length (piece (512 * source.from) (512 * source.count) stored) ≡ 512 * source.count =
    length-piece (512 * source.from) (512 * source.count) stored (omega (arith, All-head (IsLong stored) source rest within)) in
    length-append (piece (512 * source.from) (512 * source.count) stored) (copied stored rest)
    ∙ (let e : length (piece (512 * source.from) (512 * source.count) stored) + length (copied stored rest) ≡ 512 * (source.count + counted rest) =
    omega (arith, here, length-copied stored rest (All-tail (IsLong stored) source rest within)) in e)

pub length-made : (head : Head) (rows : List Row) (stored : List ℕ) (sources : List Source) → IsLayerIndex head rows → head.index_at ≡ 4096 + 512 * counted sources
    → AreWithin stored sources → length (file_with head (copied stored sources) rows) ≡ length_of head
length-made head rows stored sources layer index within =
    let size : length (copied stored sources) ≡ 512 * counted sources = length-copied stored sources within in
    let pad : length (padding_after (head.index_at + 16 * head.rows)) ≡ (head.index_at + 16 * head.rows + 4095) / 4096 * 4096 - (head.index_at + 16 * head.rows) = length-replicate _ 0 in
    let whole = length-file head (copied stored sources) rows layer.kind layer.valid layer.sized in
    let padded : head.index_at + 16 * length rows ≡ head.index_at + 16 * head.rows = ap (λ (k : ℕ). head.index_at + 16 * k) layer.count in
    omega (arith, whole, size, pad, index, layer.count)

pub length-sealed : (v : SealView) (stored : List ℕ) → IsSound v → AreWithin stored v.sources → length (file_by v stored) ≡ length_of v.head
length-sealed v stored sound within = length-made v.head v.rows stored v.sources sound.layer sound.index within

-- the file is that of the layer in memory
pub layer_of : (v : SealView) (stored : List ℕ) → IsSound v → AreWithin stored v.sources → LayerOf (file_by v stored) v.head v.rows
layer_of v stored sound within =
    let is = sound.layer in
    let bytes : List ℕ = copied stored v.sources in
    layer-file v.head bytes v.rows is.kind is.valid is.sized (omega (arith, sound.index, length-copied stored v.sources within)) is.count is.whole is.few (rows-are v.rows is.fits is.tags) is.sound

-- so is one that begins with it
pub within_more : (stored more : List ℕ) (sources : List Source) → AreWithin stored sources → take (length stored) more ≡ stored → AreWithin more sources
within_more stored more [] within front = All-nil (IsLong more)
within_more stored more (source ∷ rest) within front =
    All-cons (IsLong more) source rest
    (let e : 512 * (source.from + source.count) ≤ length more = omega (arith, All-head (IsLong stored) source rest within, ap length front, length-take (length stored) more) in e)
    (within_more stored more rest (All-tail (IsLong stored) source rest within) front)

-- the window on the whole file, part after part
pub lays_parts : (head : Head) (rows : List Row) (stored : List ℕ) (sources : List Source) (from : ℕ) (a b c d e f : List ℕ)
    → IsLayerIndex head rows → head.index_at ≡ 4096 + 512 * counted sources → AreWithin stored sources → from + length a ≤ length_of head
    → Lays from 0 (raw_block (raw_of head)) a b
    → Lays from 4096 (copied stored sources) b c
    → Lays from head.index_at (concat (map spelling rows)) c d
    → Lays from (head.index_at + 16 * head.rows) (padding_after (head.index_at + 16 * head.rows)) d e
    → Lays from (whole_blocks (head.index_at + 16 * head.rows)) (raw_block (raw_of (record head { kind = SealedEnd }))) e f
    → f ≡ piece from (length a) (file_with head (copied stored sources) rows)
unfolding file_with
lays_parts head rows stored sources from a b c d e f layer index within fits one two three four five =
    let rows_end : ℕ = head.index_at + 16 * head.rows in
    let front : List ℕ = raw_block (raw_of head) in
    let bytes : List ℕ = copied stored sources in
    let spelled : List ℕ = concat (map spelling rows) in
    let padding : List ℕ = padding_after rows_end in
    let end : List ℕ = raw_block (raw_of (record head { kind = SealedEnd })) in
    let front_long : length front ≡ 4096 = length-front head bytes rows layer.kind layer.valid layer.sized in
    let bytes_long : length bytes ≡ 512 * counted sources = length-copied stored sources within in
    let spelled_long : length spelled ≡ 16 * length rows = length-spellings rows in
    let pad_long : length padding ≡ whole_blocks rows_end - rows_end = length-replicate _ 0 in
    let to_two = lays_next from 4096 front bytes a b c one front_long two in
    let two_long : length (front ++ bytes) ≡ head.index_at = length-append front bytes ∙ omega (arith, front_long, bytes_long, index) in
    let to_three = lays_next from head.index_at (front ++ bytes) spelled a c d to_two two_long three in
    let three_long : length (front ++ bytes ++ spelled) ≡ rows_end = length-append (front ++ bytes) spelled ∙ omega (arith, two_long, spelled_long, layer.count) in
    let to_four = lays_next from rows_end (front ++ bytes ++ spelled) padding a d e to_three three_long four in
    let four_long : length (front ++ bytes ++ spelled ++ padding) ≡ whole_blocks rows_end = length-append (front ++ bytes ++ spelled) padding ∙ omega (arith, three_long, pad_long) in
    let to_five = lays_next from (whole_blocks rows_end) (front ++ bytes ++ spelled ++ padding) end a e f to_four four_long five in
    lays_whole from (front ++ bytes ++ spelled ++ padding ++ end) a f to_five (omega (arith, length-made head rows stored sources layer index within, fits))

-- a data file that begins with another has the same bytes for the sources
pub copied-front : (stored more : List ℕ) (sources : List Source) → AreWithin stored sources → take (length stored) more ≡ stored → copied more sources ≡ copied stored sources
copied-front stored more [] within front = refl
copied-front stored more (source ∷ rest) within front =
    let fits : 512 * source.from + 512 * source.count ≤ length stored = omega (arith, All-head (IsLong stored) source rest within) in
    ap (λ (l : List ℕ). l ++ copied more rest) (piece_front (512 * source.from) (512 * source.count) stored more fits front)
    ∙ ap (λ (l : List ℕ). piece (512 * source.from) (512 * source.count) stored ++ l) (copied-front stored more rest (All-tail (IsLong stored) source rest within) front)
  where
    piece_front : (at n : ℕ) (stored more : List ℕ) → at + n ≤ length stored → take (length stored) more ≡ stored → piece at n more ≡ piece at n stored
    piece_front at n stored more fits front =
        let long : length stored ≤ length more = omega (arith, ap length front, length-take (length stored) more) in
        same_piece at n stored more fits (omega (arith, fits, long))
        (λ i from_at below. sym (get_or-take (length stored) more i 0 (omega (arith, below, fits))) ∙ ap (λ (l : List ℕ). get_or l i 0) front)
