-- Sectors of bytes that are filled in part.
use Rattle.std.proofs.Common.{◌≡◌, ℕ, suc, ◌+◌, ◌-◌, ◌*◌, ◌<◌, ◌≤◌, List, [], ◌∷◌, ◌++◌, length, take, drop, refl, sym, ap, subst, ◌∙◌, arith, inl, inr}
use Rattle.std.specs.Prelude.{Option, IfSome, All, slice_index_or, replicate}
use Rattle.std.proofs.Math.Seq.{drop-append-add}
use Rattle.std.proofs.lemmas.List.{take-append-drop, drop-append-le, take-append-le, drop-drop, drop-take, take-take, length-drop, length-take-le, drop-replicate, take-replicate}
use Rattle.std.proofs.lemmas.List.Elements.{All-nil, All-cons, All-tail}
use Rattle.std.proofs.lemmas.Bool.Decides.{leb_tells}
use Rattle.sector_extent.specs.declared.extent.Extent.{Extent}
use Rattle.layer_shelf.specs.Shelves.{file_at}
use Rattle.sealed_layer.proofs.Told.{IfSome-both}
use Rattle.flat_image.specs.Sheets.{IsSector, zero_sector, bytes_of}
use Rattle.flat_image.specs.RowCells.{sector_at}
use Rattle.merged_index.specs.declared.piece.PieceWhat.{PieceWhat}
use Rattle.merged_index.specs.declared.piece.PieceWhat.TheVariants.{Hole, Zero, Filled}
use Rattle.merged_index.specs.Pieces.{onward}
use Rattle.merged_index.specs.Painting.{sector_of, bytes_by}
use Rattle.top_writer.specs.Gaps.{AreGaps}
use Rattle.image_core.specs.Whole.{sectors_by, IsFilled, AreFilled, LiesIn}

-- nothing is filled
pub fills-none : (said : ℕ → List ℕ) (at from until : ℕ) (bytes : List ℕ) → from ≡ until → IsFilled said at from until bytes bytes
fills-none said at from until bytes same = record {
  order = omega (arith, same);
  inside = λ k low high. absurd (omega (arith, same, low, high));
  before = λ k low. refl;
  behind = λ k high. refl;
}

-- the sectors behind those that were filled are filled too
pub fills-then : (said : ℕ → List ℕ) (at from mid until : ℕ) (first second third : List ℕ) → IsFilled said at from mid first second → IsFilled said at mid until second third
    → IsFilled said at from until first third
fills-then said at from mid until first second third one two = record {
  order = omega (arith, one.order, two.order);
  inside = λ k low high. elim (leb_tells mid (at + k)) [
    | inl e ↦ two.inside k e.1 high
    | inr e ↦ two.before k e.1 ∙ one.inside k low e.1
  ];
  before = λ k low. two.before k (omega (arith, low, one.order)) ∙ one.before k low;
  behind = λ k high. two.behind k high ∙ one.behind k (omega (arith, high, two.order));
}

-- the same sectors, said otherwise
pub fills-as : (said other : ℕ → List ℕ) (at from until : ℕ) (old new : List ℕ) → ((i : ℕ) → from ≤ i → i < until → said i ≡ other i)
    → IsFilled said at from until old new → IsFilled other at from until old new
fills-as said other at from until old new same is = record {
  order = is.order;
  inside = λ k low high. is.inside k low high ∙ same (at + k) low high;
  before = is.before;
  behind = is.behind;
}

-- and so in the files that a shelf tells, before and now
pub fills-on : (told now_told : Option (List (List ℕ))) (cells : ℕ → PieceWhat) (at from mid until : ℕ) (first second third : List ℕ) → now_told ≡ told
    → IfSome told (λ files. IsFilled (sectors_by files cells) at from mid first second) → IfSome now_told (λ files. IsFilled (sectors_by files cells) at mid until second third)
    → IfSome told (λ files. IsFilled (sectors_by files cells) at from until first third)
fills-on told now_told cells at from mid until first second third same one two =
    IfSome-both told now_told same one two (λ files is so_far more. fills-then (sectors_by files cells) at from mid until first second third so_far more)

-- a sector of the first of two parts, and of the second
sector-left : (x y : List ℕ) (k : ℕ) → 512 * k + 512 ≤ length x → sector_at (x ++ y) k ≡ sector_at x k
sector-left x y k fits =
    ap (take 512) (drop-append-le (512 * k) x y (omega (arith, fits)))
    ∙ take-append-le 512 (drop (512 * k) x) y (omega (arith, length-drop (512 * k) x, fits))

sector-right : (x y : List ℕ) (s k : ℕ) → length x ≡ 512 * s → sector_at (x ++ y) (s + k) ≡ sector_at y k
sector-right x y s k long =
    ap (λ (n : ℕ). take 512 (drop n (x ++ y))) (let e : 512 * (s + k) ≡ length x + 512 * k = omega (arith, long) in e)
    ∙ ap (take 512) (drop-append-add x y (512 * k))

sector-behind : (bytes : List ℕ) (s k : ℕ) → sector_at (drop (512 * s) bytes) k ≡ sector_at bytes (s + k)
sector-behind bytes s k =
    ap (take 512) (drop-drop (512 * k) (512 * s) bytes)
    ∙ ap (λ (n : ℕ). take 512 (drop n bytes)) (let e : 512 * s + 512 * k ≡ 512 * (s + k) = omega arith in e)

-- a sector of the bytes that a piece reads as
sector-zeros : (n i : ℕ) → i < n → take 512 (drop (512 * i) (replicate {A = ℕ} (512 * n) 0)) ≡ zero_sector
unfolding zero_sector
sector-zeros n i below =
    ap (take 512) (drop-replicate {X = ℕ} (512 * i) (512 * n) 0)
    ∙ take-replicate {X = ℕ} 512 (512 * n - 512 * i) 0 (omega (arith, below))

pub sector-part : (file : List ℕ) (place n i : ℕ) → i < n → take 512 (drop (512 * i) (take (512 * n) (drop (512 * place) file))) ≡ sector_at file (place + i)
sector-part file place n i below =
    let rest : ℕ = 512 * n - 512 * i in
    let parts : 512 * n ≡ 512 * i + rest = omega (arith, below) in
    let data_from : List ℕ = drop (512 * place) file in
    ap (λ (k : ℕ). take 512 (drop (512 * i) (take k data_from))) parts
    ∙ ap (take 512) (drop-take (512 * i) rest data_from)
    ∙ take-take 512 rest (drop (512 * i) data_from) (omega (arith, below))
    ∙ sector-behind file place i

piece-sector : (files : List (List ℕ)) (what : PieceWhat) (n i : ℕ) → i < n → sector_at (bytes_by files what n) i ≡ sector_of files (onward what i)
piece-sector files Hole n i below = sector-zeros n i below
piece-sector files Zero n i below = sector-zeros n i below
piece-sector files (Filled layer place) n i below = sector-part (file_at files layer) place n i below

-- the bytes of a part are put between what was there before and behind it
module _ (said : ℕ → List ℕ) (at from n a c : ℕ) (old front rest piece back : List ℕ) (order : at ≤ from) (a_is : a ≡ 512 * (from - at)) (c_is : c ≡ 512 * n)
    (front_is : front ≡ take a old) (rest_is : rest ≡ drop a old) (back_is : back ≡ drop c rest) (fits : 512 * (from + n) ≤ 512 * at + length old)
    (size : length piece ≡ c) (says : (i : ℕ) → i < n → sector_at piece i ≡ said (from + i)) where
  front-long : length front ≡ 512 * (from - at)
  front-long = ap (length {A = ℕ}) front_is ∙ length-take-le a old (omega (arith, a_is, fits, order)) ∙ a_is

  before : (k : ℕ) → at + k < from → sector_at (front ++ (piece ++ back)) k ≡ sector_at old k
  before k low =
      sector-left front (piece ++ back) k (omega (arith, front-long, low))
      ∙ sym (sector-left front rest k (omega (arith, front-long, low)))
      ∙ ap (λ (bytes : List ℕ). sector_at bytes k) ((λ i. front_is i ++ rest_is i) ∙ take-append-drop a old)

  inside : (k : ℕ) → from ≤ at + k → at + k < from + n → sector_at (front ++ (piece ++ back)) k ≡ said (at + k)
  inside k low high =
      let i : ℕ = at + k - from in
      let below : i < n = omega (arith, low, high) in
      ap (sector_at (front ++ (piece ++ back))) (let e : k ≡ (from - at) + i = omega (arith, low, order) in e)
      ∙ sector-right front (piece ++ back) (from - at) i front-long
      ∙ sector-left piece back i (omega (arith, size, c_is, below))
      ∙ says i below
      ∙ ap said (let e : from + i ≡ at + k = omega (arith, low) in e)

  behind : (k : ℕ) → from + n ≤ at + k → sector_at (front ++ (piece ++ back)) k ≡ sector_at old k
  behind k high =
      let j : ℕ = at + k - (from + n) in
      let where_from : (from - at) + (n + j) ≡ k = omega (arith, high, order) in
      let back_at : back ≡ drop (512 * ((from - at) + n)) old =
      back_is ∙ ap (drop c) rest_is ∙ drop-drop c a old ∙ ap (λ (m : ℕ). drop m old) (let e : a + c ≡ 512 * ((from - at) + n) = omega (arith, a_is, c_is) in e) in
      ap (sector_at (front ++ (piece ++ back))) (sym where_from)
      ∙ sector-right front (piece ++ back) (from - at) (n + j) front-long
      ∙ sector-right piece back n j (size ∙ c_is)
      ∙ ap (λ (bytes : List ℕ). sector_at bytes j) back_at
      ∙ sector-behind old ((from - at) + n) j
      ∙ ap (sector_at old) (let e : (from - at) + n + j ≡ k = omega (arith, where_from) in e)

  pub part-filled : IsFilled said at from (from + n) old (front ++ (piece ++ back))
  part-filled = record { order = omega arith; inside = inside; before = before; behind = behind }

-- so it is where they are those of a piece of the layers
pub piece-filled : (files : List (List ℕ)) (what : PieceWhat) (at from n a c : ℕ) (old front rest piece back : List ℕ) → at ≤ from → a ≡ 512 * (from - at) → c ≡ 512 * n
    → front ≡ take a old → rest ≡ drop a old → back ≡ drop c rest → 512 * (from + n) ≤ 512 * at + length old → length piece ≡ c → piece ≡ bytes_by files what n
    → IsFilled (λ i. sector_of files (onward what (i - from))) at from (from + n) old (front ++ (piece ++ back))
piece-filled files what at from n a c old front rest piece back order a_is c_is front_is rest_is back_is fits size filled =
    part-filled (λ i. sector_of files (onward what (i - from))) at from n a c old front rest piece back order a_is c_is front_is rest_is back_is fits size
    (λ i below. ap (λ (bytes : List ℕ). sector_at bytes i) filled ∙ piece-sector files what n i below ∙ ap (λ (k : ℕ). sector_of files (onward what k)) (let e : i ≡ from + i - from = omega arith in e))

-- one extent more is filled
filled-more : (said : ℕ → List ℕ) (at : ℕ) (extents : List Extent) (extent : Extent) (old mid new : List ℕ) → AreFilled said at extents old mid
    → IsFilled said at extent.at (extent.at + extent.count) mid new → AreFilled said at (extents ++ extent ∷ []) old new
filled-more said at [] extent old mid new are is =
    (new, subst (λ (bytes : List ℕ). IsFilled said at extent.at (extent.at + extent.count) bytes new) are is, refl)
filled-more said at (first ∷ extents) extent old mid new are is = (are.0, are.1, filled-more said at extents extent are.0 mid new are.2 is)

pub filled-on : (told now_told : Option (List (List ℕ))) (cells : ℕ → PieceWhat) (at : ℕ) (extents : List Extent) (extent : Extent) (old mid new : List ℕ) → now_told ≡ told
    → IfSome told (λ files. AreFilled (sectors_by files cells) at extents old mid)
    → IfSome now_told (λ files. IsFilled (sectors_by files cells) at extent.at (extent.at + extent.count) mid new)
    → IfSome told (λ files. AreFilled (sectors_by files cells) at (extents ++ extent ∷ []) old new)
filled-on told now_told cells at extents extent old mid new same one two =
    IfSome-both told now_told same one two (λ files is so_far more. filled-more (sectors_by files cells) at extents extent old mid new so_far more)

-- what the gaps of a range become, and what stays between them
pub record AreGapsFilled (said : ℕ → List ℕ) (hole : ℕ → Type 0) (at from until : ℕ) (old new : List ℕ) : Type 0 where
  pub holes : (k : ℕ) → from ≤ at + k → at + k < until → hole (at + k) → sector_at new k ≡ said (at + k)
  pub others : (k : ℕ) → from ≤ at + k → at + k < until → ¬ hole (at + k) → sector_at new k ≡ sector_at old k
  pub before : (k : ℕ) → at + k < from → sector_at new k ≡ sector_at old k

pub gaps-filled : (said : ℕ → List ℕ) (hole : ℕ → Type 0) (at from until : ℕ) (gaps : List Extent) (old new : List ℕ) → AreGaps hole from until gaps
    → AreFilled said at gaps old new → AreGapsFilled said hole at from until old new
gaps-filled said hole at from until [] old new are filled = record {
  holes = λ k low high is. absurd (are.1 (at + k) low high is);
  others = λ k low high is. ap (λ (bytes : List ℕ). sector_at bytes k) filled;
  before = λ k low. ap (λ (bytes : List ℕ). sector_at bytes k) filled;
}
gaps-filled said hole at from until (gap ∷ gaps) old new are filled =
    let next = are.0 in
    let here = filled.1 in
    let rest : AreGapsFilled said hole at (gap.at + gap.count) until filled.0 new = gaps-filled said hole at (gap.at + gap.count) until gaps filled.0 new are.1 filled.2 in
    record {
      holes = λ k low high is. elim (leb_tells (gap.at + gap.count) (at + k)) [
        | inl e ↦ rest.holes k e.1 high is
        | inr e ↦ elim (leb_tells gap.at (at + k)) [
          | inl f ↦ rest.before k e.1 ∙ here.inside k f.1 e.1
          | inr f ↦ absurd (next.before (at + k) low f.1 is)
        ]
      ];
      others = λ k low high is. elim (leb_tells (gap.at + gap.count) (at + k)) [
        | inl e ↦ rest.others k e.1 high is ∙ here.behind k e.1
        | inr e ↦ elim (leb_tells gap.at (at + k)) [
          | inl f ↦ absurd (is (next.holes (at + k) (record { from = f.1; below = e.1 })))
          | inr f ↦ rest.before k e.1 ∙ here.before k f.1
        ]
      ];
      before = λ k low. rest.before k (omega (arith, low, next.begins)) ∙ here.before k (omega (arith, low, next.begins));
    }

-- bytes with the sectors of an image are that image's
pub bytes-are : (image : List (List ℕ)) (bytes : List ℕ) → All IsSector image → length bytes ≡ 512 * length image
    → ((k : ℕ) → k < length image → sector_at bytes k ≡ slice_index_or image k []) → bytes ≡ bytes_of image
bytes-are [] [] whole long same = refl
bytes-are [] (byte ∷ bytes) whole long same = absurd (omega (arith, long))
bytes-are (sector ∷ image) bytes whole long same =
    sym (take-append-drop 512 bytes)
    ∙ (λ i. same 0 (omega arith) i ++ bytes-are image (drop 512 bytes) (All-tail IsSector sector image whole) (omega (arith, length-drop 512 bytes, long))
    (λ k below. sector-behind bytes 1 k ∙ ap (sector_at bytes) (let e : 1 + k ≡ suc k = omega arith in e) ∙ same (suc k) (omega (arith, below))) i)

-- gaps of a range lie in its bytes
pub gaps-lie : (hole : ℕ → Type 0) (at size from until : ℕ) (gaps : List Extent) → at ≤ from → 512 * until ≤ 512 * at + size → AreGaps hole from until gaps → All (LiesIn at size) gaps
gaps-lie hole at size from until [] low high are = All-nil (LiesIn at size)
gaps-lie hole at size from until (gap ∷ gaps) low high are =
    let next = are.0 in
    All-cons (LiesIn at size) gap gaps (record { from = omega (arith, low, next.begins); to = omega (arith, next.ends, high) })
    (gaps-lie hole at size (gap.at + gap.count) until gaps (omega (arith, low, next.begins)) high are.1)

-- and end in the range
pub gaps-within : (hole : ℕ → Type 0) (from until most : ℕ) (gaps : List Extent) → until ≤ most → AreGaps hole from until gaps → All (λ (e : Extent). e.at + e.count ≤ most) gaps
gaps-within hole from until most [] high are = All-nil (λ (e : Extent). e.at + e.count ≤ most)
gaps-within hole from until most (gap ∷ gaps) high are =
    let next = are.0 in
    All-cons (λ (e : Extent). e.at + e.count ≤ most) gap gaps (omega (arith, next.ends, high)) (gaps-within hole (gap.at + gap.count) until most gaps high are.1)
