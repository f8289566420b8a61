-- Cells put into a sheet.
use Rattle.std.proofs.Common.{◌≡◌, ℕ, zero, suc, ◌+◌, ◌-◌, ◌*◌, ◌<◌, ◌≤◌, ◌⊎◌, List, [], ◌++◌, length, map, take, drop, refl, sym, ap, ◌∙◌, arith, inl, inr, get_or}
use Rattle.std.specs.Prelude.{replicate}
use Rattle.std.specs.List.{range_with_len}
use Rattle.std.proofs.Math.Seq.{drop-append-add}
use Rattle.std.proofs.lemmas.Bool.Decides.{leb_tells}
use Rattle.std.proofs.lemmas.List.{length-take-le, get_or-append_right, get_or_append_left, get_or-take, get_or-drop, get_or-map, get_or-replicate, ext_get_or, drop-drop, length-map}
use Rattle.std.proofs.lemmas.List.FromFn.{get_or-map-range_with_len, length-map-range_with_len}
use Rattle.flat_image.specs.Sheets.{Cell, Hole, Zero, Filled, image_in}
use Rattle.flat_image.specs.Sectors.{sectors_in, sector_count, put_at}
use Rattle.flat_image.specs.RowCells.{sector_at}
use Rattle.flat_image.proofs.Painting.{length-put_at, length-sectors_in}

sheet_at : (f : ℕ → Cell) (n i : ℕ) → i < n → get_or (map f (range_with_len 0 n)) i Hole ≡ f i
sheet_at f n i lt = get_or-map-range_with_len f 0 n i i Hole lt (omega arith)

before : (at i : ℕ) (new old : List Cell) → i < at → at ≤ length old → get_or (put_at at new old) i Hole ≡ get_or old i Hole
unfolding put_at
before at i new old lt fits =
    get_or_append_left (take at old) (new ++ drop (at + length new) old) Hole i (omega (arith, length-take-le at old fits, lt))
    ∙ get_or-take at old i Hole lt

inside : (at i : ℕ) (new old : List Cell) → at ≤ i → i < at + length new → at ≤ length old → get_or (put_at at new old) i Hole ≡ get_or new (i - at) Hole
unfolding put_at
inside at i new old from lt fits =
    get_or-append_right (take at old) (new ++ drop (at + length new) old) at i Hole (length-take-le at old fits) from
    ∙ get_or_append_left new (drop (at + length new) old) Hole (i - at) (omega (arith, from, lt))

behind : (at i : ℕ) (new old : List Cell) → at + length new ≤ i → at ≤ length old → get_or (put_at at new old) i Hole ≡ get_or old i Hole
unfolding put_at
behind at i new old from fits =
    get_or-append_right (take at old) (new ++ drop (at + length new) old) at i Hole (length-take-le at old fits) (omega (arith, from))
    ∙ get_or-append_right new (drop (at + length new) old) (length new) (i - at) Hole refl (omega (arith, from))
    ∙ get_or-drop (at + length new) old (i - at - length new) Hole
    ∙ ap (λ (k : ℕ). get_or old k Hole) (let e : at + length new + (i - at - length new) ≡ i = omega (arith, from) in e)

-- a sheet of cells by number, into which cells are put, is that of the new cells and, outside of these, the old ones
pub sheet_put : (f g : ℕ → Cell) (at n : ℕ) (new : List Cell) → at + length new ≤ n
    → ((k : ℕ) → k < length new → get_or new k Hole ≡ g (at + k))
    → ((i : ℕ) → (i < at) ⊎ (at + length new ≤ i) → g i ≡ f i)
    → put_at at new (map f (range_with_len 0 n)) ≡ map g (range_with_len 0 n)
sheet_put f g at n new fits in_new out =
    let old : List Cell = map f (range_with_len 0 n) in
    let len : length old ≡ n = length-map-range_with_len f 0 n in
    let len_put : length (put_at at new old) ≡ n = length-put_at at new old (omega (arith, fits, len)) ∙ len in
    ext_get_or Hole (put_at at new old) (map g (range_with_len 0 n)) (len_put ∙ sym (length-map-range_with_len g 0 n))
    (λ i below.
    let lt : i < n = omega (arith, len_put, below) in
    let in_old : at ≤ length old = omega (arith, fits, len) in
    elim (leb_tells at i) as (λ _. get_or (put_at at new old) i Hole ≡ get_or (map g (range_with_len 0 n)) i Hole) [
      | inl from ↦ elim (leb_tells (at + length new) i) as (λ _. get_or (put_at at new old) i Hole ≡ get_or (map g (range_with_len 0 n)) i Hole) [
        | inl past ↦ behind at i new old past.1 in_old ∙ sheet_at f n i lt ∙ sym (out i (inr past.1)) ∙ sym (sheet_at g n i lt)
        | inr within ↦ inside at i new old from.1 within.1 in_old
            ∙ in_new (i - at) (omega (arith, from.1, within.1))
            ∙ ap g (let e : at + (i - at) ≡ i = omega (arith, from.1) in e)
            ∙ sym (sheet_at g n i lt)
      ]
      | inr early ↦ before at i new old early.1 in_old ∙ sheet_at f n i lt ∙ sym (out i (inl early.1)) ∙ sym (sheet_at g n i lt)
    ])

image_get : (n : ℕ) (bytes : List ℕ) (k : ℕ) → k < n → get_or (image_in n bytes) k [] ≡ take 512 (drop (512 * k) bytes)
image_get zero bytes k lt = absurd (omega (arith, lt))
image_get (suc n) bytes zero lt = refl
image_get (suc n) bytes (suc k) lt =
    image_get n (drop 512 bytes) k (omega (arith, lt))
    ∙ ap (take 512) (drop-drop (512 * k) 512 bytes ∙ ap (λ (j : ℕ). drop j bytes) (let e : 512 + 512 * k ≡ 512 * suc k = omega arith in e))

pub count_whole : (count : ℕ) (bytes : List ℕ) → length bytes ≡ 512 * count → sector_count bytes ≡ count
count_whole count bytes size = omega (arith, size)

-- the cells of written sectors, which stand behind a file of whole sectors
pub filled_at : (count place : ℕ) (bytes file : List ℕ) (k : ℕ) → length bytes ≡ 512 * count → length file ≡ 512 * place → k < count
    → get_or (map Filled (sectors_in bytes)) k Hole ≡ Filled (sector_at (file ++ bytes) (place + k))
unfolding sectors_in
filled_at count place bytes file k size long lt =
    let number : sector_count bytes ≡ count = count_whole count bytes size in
    let lt_sectors : k < sector_count bytes = omega (arith, number, lt) in
    get_or-map Filled (image_in (sector_count bytes) bytes) k [] Hole (omega (arith, length-sectors_in bytes, lt_sectors))
    ∙ ap Filled (image_get (sector_count bytes) bytes k lt_sectors
    ∙ ap (take 512) (sym (drop-append-add file bytes (512 * k)) ∙ ap (λ (j : ℕ). drop j (file ++ bytes)) (let e : length file + 512 * k ≡ 512 * (place + k) = omega (arith, long) in e)))

pub length-filled : (count : ℕ) (bytes : List ℕ) → length bytes ≡ 512 * count → length (map Filled (sectors_in bytes)) ≡ count
length-filled count bytes size = length-map (sectors_in bytes) Filled ∙ length-sectors_in bytes ∙ count_whole count bytes size

pub zero_at : (count k : ℕ) → k < count → get_or (replicate count Zero) k Hole ≡ Zero
zero_at count k lt = get_or-replicate count k Zero Hole lt
