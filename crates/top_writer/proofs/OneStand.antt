-- Three files show one top at most, and there is no reason against files that show one.
use Rattle.std.proofs.Common.{◌≡◌, ◌≢◌, ℕ, zero, suc, ◌+◌, ◌*◌, ◌^◌, ◌<◌, ◌≤◌, ◌⊎◌, inl, inr, false, List, [], ◌∷◌, length, take, drop, Option, Some, None, refl, sym, ap, subst, ◌∙◌, arith}
use Rattle.std.proofs.Math.ListN.{get_or}
use Rattle.std.proofs.lemmas.List.{take_all}
use Rattle.std.proofs.lemmas.Nat.{from_le_bytes-to_le_bytes_8}
use Rattle.std.specs.Int.{w64, to_le_bytes, from_le_bytes}
use Rattle.seg_mapping.specs.declared.Row.{Row}
use Rattle.seg_mapping.specs.Rows.{RowOf, spelling, first_word, count_in}
use Rattle.seg_mapping.proofs.RowWords.{one_row, first_word-below}
use Rattle.lsmt_header.specs.declared.head.HeadFault.{HeadFault}
use Rattle.lsmt_header.specs.declared.head.Kind.{Kind}
use Rattle.lsmt_header.specs.declared.head.Kind.TheVariants.{TopBytes, TopRows}
use Rattle.lsmt_header.specs.Blocks.{RawHead, raw_head}
use Rattle.lsmt_header.specs.Faults.{IsFault}
use Rattle.lsmt_header.proofs.BlockLemmas.{raw_of-block}
use Rattle.lsmt_header.proofs.FaultLemmas.{no_fault}
use Rattle.gate_mark.specs.MarkFile.{Shows}
use Rattle.flat_image.specs.Left.{Stand}
use Rattle.flat_image.specs.RowCells.{AreSpelled}
use Rattle.top_writer.specs.declared.fault.TopFault.{TopFault}
use Rattle.top_writer.specs.declared.fault.TopFault.TheVariants.{Memory, Failed, NoTop}
use Rattle.top_writer.specs.declared.fault.TopReason.{TopReason}
use Rattle.top_writer.specs.declared.fault.TopReason.TheVariants as why
use Rattle.top_writer.specs.Files.{Stored, HasBlock, IsSizeFor, rows_said, sectors_said, HeadsAsked}
use Rattle.top_writer.specs.Loading.{IsRefused}
use Rattle.top_writer.specs.Reasons.{HasMark, HasCounts, StopsAtRow, IsRowReason, IsReason}
use Rattle.top_writer.specs.Rows.{IsStored, IsTopRow, top_sheet}
use Rattle.top_writer.specs.Showing.{ShowsTop}

-- rows that are spelled at one place are the same as far as both go
same_rows : (file : List ℕ) (at : ℕ) (xs ys : List Row) → AreSpelled file at xs → AreSpelled file at ys → length xs ≤ length ys → xs ≡ take (length xs) ys
same_rows file at [] ys are others few = refl
same_rows file at (x ∷ xs) [] are others few = absurd (omega arith)
same_rows file at (x ∷ xs) (y ∷ ys) are others few =
    ap (λ (row : Row). row ∷ xs) (one_row (take 16 (drop at file)) x y are.0 others.0)
    ∙ ap (λ (rows : List Row). y ∷ rows) (same_rows file (at + 16) xs ys are.1 others.1 (omega arith))

-- each row is spelled at its place
spelled_at : (file : List ℕ) (at : ℕ) (rows : List Row) (k : ℕ) (d : Row) → AreSpelled file at rows → k < length rows → RowOf (take 16 (drop (at + 16 * k) file)) (get_or rows k d)
spelled_at file at [] k d are below = absurd (omega arith)
spelled_at file at (row ∷ rows) zero d are below = subst (λ (n : ℕ). RowOf (take 16 (drop n file)) row) (let e : at ≡ at + 16 * 0 = omega arith in e) are.0
spelled_at file at (row ∷ rows) (suc k) d are below =
    subst (λ (n : ℕ). RowOf (take 16 (drop n file)) (get_or rows k d)) (let e : at + 16 + 16 * k ≡ at + 16 * suc k = omega arith in e)
    (spelled_at file (at + 16) rows k d are.1 (omega arith))

-- the bytes of a row say a count
count_of_row : (bytes : List ℕ) (row : Row) → RowOf bytes row → count_in bytes ≢ 0
unfolding spelling
count_of_row bytes row of none =
    let front : take 8 bytes ≡ to_le_bytes w64 (first_word row) = ap (λ (bs : List ℕ). take 8 bs) of.spelled in
    let first : from_le_bytes w64 (take 8 bytes) ≡ first_word row =
    ap (λ (bs : List ℕ). from_le_bytes w64 bs) front ∙ from_le_bytes-to_le_bytes_8 (first_word row) (first_word-below row of.fits) in
    let fits = of.fits in
    omega (arith, none, first, fits.offset, fits.some)

-- a row of a top has no fault
sound_row : (n filled : ℕ) (bytes : List ℕ) (number : ℕ) (row : Row) (reason : TopReason) → RowOf bytes row → IsTopRow n filled row → IsRowReason n filled bytes number reason → ⊥
sound_row n filled bytes number row (why.Row at fault) of is bad = count_of_row bytes row of bad.1
sound_row n filled bytes number row (why.RowRange at) of is bad =
    let same = one_row bytes bad.1.0 row bad.1.1 of in
    let range = is.range in let over : n < row.offset + row.count = subst (λ (r : Row). n < r.offset + r.count) same bad.1.2 in omega (arith, range, over)
sound_row n filled bytes number row (why.RowPlace at) of is bad =
    let same = one_row bytes bad.1.0 row bad.1.1 of in
    bad.1.3 (subst (IsStored filled) (sym same) is.place)
sound_row n filled bytes number row why.HeadShort of is bad = bad
sound_row n filled bytes number row (why.Bytes fault) of is bad = bad
sound_row n filled bytes number row (why.Rows fault) of is bad = bad
sound_row n filled bytes number row (why.HeadSize size) of is bad = bad
sound_row n filled bytes number row why.ParentDiffers of is bad = bad
sound_row n filled bytes number row why.NoMark of is bad = bad
sound_row n filled bytes number row (why.MarkWorn sequence) of is bad = bad
sound_row n filled bytes number row (why.MarkBad rows sectors) of is bad = bad
sound_row n filled bytes number row why.ShortRows of is bad = bad
sound_row n filled bytes number row why.ShortBytes of is bad = bad

-- a file shows one mark
abbrev number_in : Option (ℕ × List ℕ) → ℕ
number_in None = 0
number_in (Some mark) = mark.0

abbrev text_in : Option (ℕ × List ℕ) → List ℕ
text_in None = []
text_in (Some mark) = mark.1

same_number : (file : List ℕ) (one other : ℕ) (body text : List ℕ) → Shows one body file → Shows other text file → one ≡ other
same_number file one other body text h k = ap number_in (sym h ∙ k)

same_body : (file : List ℕ) (one other : ℕ) (body text : List ℕ) → Shows one body file → Shows other text file → body ≡ text
same_body file one other body text h k = ap text_in (sym h ∙ k)

-- so what the mark counts is what the top has
same_counts : (n : ℕ) (asked : HeadsAsked) (s : Stand) (t : Stored) (rows filled : ℕ) → ShowsTop n asked s t → HasCounts n asked t rows filled → (rows ≡ s.rows) × (filled ≡ s.filled)
same_counts n asked s t rows filled shows counts =
    let same : counts.body ≡ shows.body = same_body t.mark counts.mark.sequence shows.sequence counts.body shows.body counts.mark.mark shows.mark in
    (sym counts.rows_are ∙ ap rows_said same ∙ shows.counts.rows_are, sym counts.sectors_are ∙ ap sectors_said same ∙ shows.counts.sectors_are)

-- what stands past the end of a list of rows
no_row : Row
no_row = record { offset = 0; count = 0; place = 0; zeroed = false; tag = 0 }

no_stop : (n : ℕ) (asked : HeadsAsked) (s : Stand) (t : Stored) (reason : TopReason) → ShowsTop n asked s t → StopsAtRow n asked t reason → ⊥
no_stop n asked s t reason shows stop =
    let k : ℕ = length stop.before in
    let same = same_counts n asked s t stop.count stop.filled shows stop.whole.counts in
    let more = stop.more in
    let few : k < length shows.rows = omega (arith, more, same.0, shows.number) in
    let row : Row = get_or shows.rows k no_row in
    let of : RowOf (take 16 (drop (4096 + 16 * k) t.index)) row = spelled_at t.index 4096 shows.rows k no_row shows.spelled few in
    let is : IsTopRow n s.filled row = shows.sound k no_row few in
    sound_row n s.filled (take 16 (drop (4096 + 16 * k) t.index)) k row reason of is
    (subst (λ (filled : ℕ). IsRowReason n filled (take 16 (drop (4096 + 16 * k) t.index)) k reason) same.1 stop.here)

-- the head of a file has no fault
sound_head : (kind : Kind) (file : List ℕ) (fault : HeadFault) → HasBlock kind file → IsFault kind (raw_head (take 4096 file)) fault → ⊥
sound_head kind file fault has bad =
    no_fault kind has.0 fault has.2 has.1.valid has.1.fits (subst (λ (raw : RawHead). IsFault kind raw fault) (raw_of-block (take 4096 file) has.0 has.1) bad)

pub no_reason : (n : ℕ) (asked : HeadsAsked) (s : Stand) (t : Stored) (shows : ShowsTop n asked s t) → shows.sequence ≤ 2 ^ 61 → (reason : TopReason) → IsReason n asked t reason → ⊥
no_reason n asked s t shows low why.HeadShort bad = let bytes = shows.bytes_long in let index = shows.index_long in bad (omega (arith, bytes), omega (arith, index))
no_reason n asked s t shows low (why.Bytes fault) bad = sound_head TopBytes t.bytes fault shows.heads.bytes_head bad.1
no_reason n asked s t shows low (why.Rows fault) bad = sound_head TopRows t.index fault shows.heads.index_head bad.1
no_reason n asked s t shows low (why.HeadSize size) bad = elim bad.2 [
  | inl first ↦ bad.1 (subst (IsSizeFor asked.exact n) (sym first) shows.heads.bytes_size)
  | inr second ↦ bad.1 (subst (IsSizeFor asked.exact n) (sym second.1) shows.heads.index_size)
]
no_reason n asked s t shows low why.ParentDiffers bad = bad.1 shows.heads.parent_is
no_reason n asked s t shows low why.NoMark bad = let mark = shows.mark in let none = bad.1 in cc
no_reason n asked s t shows low (why.MarkWorn sequence) bad =
    let same = same_number t.mark sequence shows.sequence bad.1.0 shows.body bad.1.1 shows.mark in let high = bad.2 in omega (arith, same, high, low)
no_reason n asked s t shows low (why.MarkBad rows sectors) bad =
    let mark : HasMark n asked t bad.0 = bad.1 in
    let same : bad.0 ≡ shows.body = same_body t.mark mark.sequence shows.sequence bad.0 shows.body mark.mark shows.mark in
    let rows_are : rows ≡ s.rows = bad.2 ∙ ap rows_said same ∙ shows.counts.rows_are in
    let sectors_are : sectors ≡ s.filled = bad.3 ∙ ap sectors_said same ∙ shows.counts.sectors_are in
    let few = shows.counts.room.rows_fit in let small = shows.counts.room.sectors_fit in
    elim bad.4 [
      | inl many ↦ omega (arith, many, rows_are, few)
      | inr large ↦ omega (arith, large, sectors_are, small)
    ]
no_reason n asked s t shows low why.ShortRows bad =
    let same = same_counts n asked s t bad.0 bad.1 shows bad.2 in let short = bad.3 in let long = shows.index_long in omega (arith, same.0, short, long)
no_reason n asked s t shows low why.ShortBytes bad =
    let same = same_counts n asked s t bad.0 bad.1 shows bad.2 in let short = bad.4 in let long = shows.bytes_long in omega (arith, same.1, short, long)
no_reason n asked s t shows low (why.Row number fault) bad = no_stop n asked s t (why.Row number fault) shows bad
no_reason n asked s t shows low (why.RowRange number) bad = no_stop n asked s t (why.RowRange number) shows bad
no_reason n asked s t shows low (why.RowPlace number) bad = no_stop n asked s t (why.RowPlace number) shows bad

pub no_refusal : (n : ℕ) (asked : HeadsAsked) (s : Stand) (t : Stored) (shows : ShowsTop n asked s t) → shows.sequence ≤ 2 ^ 61 → (fault : TopFault) → IsRefused n asked t fault
    → (fault ≡ Memory) ⊎ (fault ≡ Failed)
no_refusal n asked s t shows low Memory bad = inl refl
no_refusal n asked s t shows low Failed bad = inr refl
no_refusal n asked s t shows low (NoTop reason) bad = absurd (no_reason n asked s t shows low reason bad)

-- files show one top at most
pub one_stand : (n : ℕ) (asked : HeadsAsked) (one other : Stand) (t : Stored) → ShowsTop n asked one t → ShowsTop n asked other t → one ≡ other
one_stand n asked one other t h k =
    let same : h.body ≡ k.body = same_body t.mark h.sequence k.sequence h.body k.body h.mark k.mark in
    let rows_are : one.rows ≡ other.rows = sym h.counts.rows_are ∙ ap rows_said same ∙ k.counts.rows_are in
    let filled_are : one.filled ≡ other.filled = sym h.counts.sectors_are ∙ ap sectors_said same ∙ k.counts.sectors_are in
    let number : length h.rows ≡ length k.rows = omega (arith, h.number, k.number, rows_are) in
    let rows : h.rows ≡ k.rows = same_rows t.index 4096 h.rows k.rows h.spelled k.spelled (omega (arith, number)) ∙ take_all (length h.rows) k.rows (omega (arith, number)) in
    let cells : one.cells ≡ other.cells = h.cells ∙ ap (top_sheet t.bytes n) rows ∙ sym k.cells in
    λ i. record { cells = cells i; rows = rows_are i; filled = filled_are i }
