-- Laws of painting: parts of an image, holes, and cells that replace others.
use Rattle.std.proofs.Common.{◌≡◌, ℕ, zero, suc, ◌+◌, ◌-◌, ◌≤◌, List, [], ◌∷◌, ◌++◌, length, map, take, drop, refl, sym, ap, subst, ◌∙◌, ◌*◌, arith, append_assoc, length-append, length-take, length-drop}
use Rattle.std.proofs.Math.ListN.{replicate}
use Rattle.std.proofs.Math.Seq.{take-append-add, drop-append-add, take-nil, drop-nil}
use Rattle.std.proofs.lemmas.List.{take-append-drop, length-replicate, drop-drop, nil_from_length, replicate-append-replicate}
use Rattle.std.proofs.lemmas.List.Folds.{concat-append}
use Rattle.std.proofs.lemmas.List.Elements.{All-nil, All-cons, All-head, All-tail, All-append, All-take, All-drop, All-replicate}
use Rattle.std.specs.Prelude.{fold, All}
use Rattle.flat_image.specs.Sheets.{Cell, Hole, Zero, Filled, zero_sector, IsSector, IsCell, painted, paint, lengthened, flat, bytes_of, image_in}
use Rattle.flat_image.specs.Sectors.{sector_count, sectors_in, put_at}

-- painting keeps the number of sectors
pub length-paint : (image : List (List ℕ)) (cells : List Cell) → length cells ≤ length image → length (paint image cells) ≡ length image
length-paint [] [] fits = refl
length-paint [] (c ∷ cs) fits = absurd (omega (arith, fits))
length-paint (s ∷ ss) [] fits = refl
length-paint (s ∷ ss) (c ∷ cs) fits = ap suc (length-paint ss cs (omega (arith, fits)))

pub paint-nil : (image : List (List ℕ)) → paint image [] ≡ image
paint-nil [] = refl
paint-nil (s ∷ ss) = refl

-- holes let the image through
pub paint-holes : (image : List (List ℕ)) (n : ℕ) → n ≤ length image → paint image (replicate n Hole) ≡ image
paint-holes image zero fits = paint-nil image
paint-holes [] (suc n) fits = absurd (omega (arith, fits))
paint-holes (s ∷ ss) (suc n) fits = ap (λ r. s ∷ r) (paint-holes ss n (omega (arith, fits)))

-- filled cells hide it, and so do zeros
pub paint-filled : (image new : List (List ℕ)) → length image ≡ length new → paint image (map Filled new) ≡ new
paint-filled [] [] same = refl
paint-filled [] (t ∷ ts) same = absurd (omega (arith, same))
paint-filled (s ∷ ss) [] same = absurd (omega (arith, same))
paint-filled (s ∷ ss) (t ∷ ts) same = ap (λ r. t ∷ r) (paint-filled ss ts (omega (arith, same)))

pub paint-zeros : (image : List (List ℕ)) (n : ℕ) → length image ≡ n → paint image (replicate n Zero) ≡ replicate n zero_sector
paint-zeros [] zero same = refl
paint-zeros [] (suc n) same = absurd (omega (arith, same))
paint-zeros (s ∷ ss) zero same = absurd (omega (arith, same))
paint-zeros (s ∷ ss) (suc n) same = ap (λ r. zero_sector ∷ r) (paint-zeros ss n (omega (arith, same)))

-- a part of the painted image is the part, painted with that part of the sheet
pub take-paint : (n : ℕ) (image : List (List ℕ)) (cells : List Cell) → take n (paint image cells) ≡ paint (take n image) (take n cells)
take-paint zero image cells = refl
take-paint (suc n) [] [] = refl
take-paint (suc n) [] (c ∷ cs) = ap (λ r. painted zero_sector c ∷ r) (take-paint n [] cs ∙ ap (λ i. paint i (take n cs)) (take-nil n))
take-paint (suc n) (s ∷ ss) [] = refl
take-paint (suc n) (s ∷ ss) (c ∷ cs) = ap (λ r. painted s c ∷ r) (take-paint n ss cs)

pub drop-paint : (n : ℕ) (image : List (List ℕ)) (cells : List Cell) → drop n (paint image cells) ≡ paint (drop n image) (drop n cells)
drop-paint zero image cells = refl
drop-paint (suc n) [] [] = refl
drop-paint (suc n) [] (c ∷ cs) = drop-paint n [] cs ∙ ap (λ i. paint i (drop n cs)) (drop-nil n)
drop-paint (suc n) (s ∷ ss) [] = sym (paint-nil (drop n ss))
drop-paint (suc n) (s ∷ ss) (c ∷ cs) = drop-paint n ss cs

pub paint-append : (x y : List (List ℕ)) (cs ds : List Cell) → length x ≡ length cs → paint (x ++ y) (cs ++ ds) ≡ paint x cs ++ paint y ds
paint-append [] y [] ds same = refl
paint-append [] y (c ∷ cs) ds same = absurd (omega (arith, same))
paint-append (s ∷ ss) y [] ds same = absurd (omega (arith, same))
paint-append (s ∷ ss) y (c ∷ cs) ds same = ap (λ r. painted s c ∷ r) (paint-append ss y cs ds (omega (arith, same)))

-- the number of sectors of what sheets make
abbrev pub FitsIn : ℕ → List Cell → Type 0
FitsIn n sheet = length sheet ≤ n

pub length-painted : (image : List (List ℕ)) (sheets : List (List Cell)) (n : ℕ) → length image ≡ n → All (FitsIn n) sheets
    → length (fold paint image sheets) ≡ n
length-painted image [] n is fit = is
length-painted image (sheet ∷ sheets) n is fit =
    length-painted (paint image sheet) sheets n
    (length-paint image sheet (subst (λ k. length sheet ≤ k) (sym is) (All-head (FitsIn n) sheet sheets fit)) ∙ is)
    (All-tail (FitsIn n) sheet sheets fit)

-- the number of sectors with those that are added
pub length-lengthened : (n : ℕ) (image : List (List ℕ)) → length image ≤ n → length (lengthened n image) ≡ n
length-lengthened n image fits =
    length-append image (replicate (n - length image) zero_sector)
    ∙ (let e : length image + length (replicate (n - length image) zero_sector) ≡ n = omega (arith, length-replicate (n - length image) zero_sector) in e)

-- an image and a sheet of at most n make one of at most n
pub paint-fits : (n : ℕ) (image : List (List ℕ)) (cells : List Cell) → length image ≤ n → length cells ≤ n → length (paint image cells) ≤ n
paint-fits n [] [] short fits = omega arith
paint-fits zero [] (c ∷ cs) short fits = absurd (omega (arith, fits))
paint-fits (suc n) [] (c ∷ cs) short fits = omega (arith, paint-fits n [] cs (omega arith) (omega (arith, fits)))
paint-fits n (s ∷ ss) [] short fits = short
paint-fits zero (s ∷ ss) (c ∷ cs) short fits = absurd (omega (arith, fits))
paint-fits (suc n) (s ∷ ss) (c ∷ cs) short fits = omega (arith, paint-fits n ss cs (omega (arith, short)) (omega (arith, fits)))

-- sectors of zeros behind an image, painted, are as many behind what the image alone makes
paint-behind : (image : List (List ℕ)) (cells : List Cell) (k j : ℕ) → length cells ≤ length image + k → length image + k ≡ length (paint image cells) + j
    → paint (image ++ replicate k zero_sector) cells ≡ paint image cells ++ replicate j zero_sector
paint-behind [] [] k j fits same =
    paint-nil (replicate k zero_sector) ∙ ap (λ (n : ℕ). replicate n zero_sector) (let e : k ≡ j = omega (arith, same) in e)
paint-behind [] (c ∷ cs) zero j fits same = absurd (omega (arith, fits))
paint-behind [] (c ∷ cs) (suc k) j fits same = ap (λ r. painted zero_sector c ∷ r) (paint-behind [] cs k j (omega (arith, fits)) (omega (arith, same)))
paint-behind (s ∷ ss) [] k j fits same = ap (λ (n : ℕ). s ∷ (ss ++ replicate n zero_sector)) (let e : k ≡ j = omega (arith, same) in e)
paint-behind (s ∷ ss) (c ∷ cs) k j fits same = ap (λ r. painted s c ∷ r) (paint-behind ss cs k j (omega (arith, fits)) (omega (arith, same)))

-- so zeros may be added before a sheet is painted or behind it
pub paint-lengthened : (n : ℕ) (image : List (List ℕ)) (cells : List Cell) → length image ≤ n → length cells ≤ n
    → paint (lengthened n image) cells ≡ lengthened n (paint image cells)
paint-lengthened n image cells short fits =
    paint-behind image cells (n - length image) (n - length (paint image cells)) (omega (arith, short, fits)) (omega (arith, short, paint-fits n image cells short fits))

painted-lengthened : (n : ℕ) (image : List (List ℕ)) (sheets : List (List Cell)) → length image ≤ n → All (FitsIn n) sheets
    → lengthened n (fold paint image sheets) ≡ fold paint (lengthened n image) sheets
painted-lengthened n image [] short fit = refl
painted-lengthened n image (sheet ∷ sheets) short fit =
    let here : length sheet ≤ n = All-head (FitsIn n) sheet sheets fit in
    painted-lengthened n (paint image sheet) sheets (paint-fits n image sheet short here) (All-tail (FitsIn n) sheet sheets fit)
    ∙ ap (λ (i : List (List ℕ)). fold paint i sheets) (sym (paint-lengthened n image sheet short here))

-- sheets of at most n cells make what they make over n sectors of zeros
pub flat-over : (n : ℕ) (sheets : List (List Cell)) → All (FitsIn n) sheets → flat n sheets ≡ fold paint (replicate n zero_sector) sheets
flat-over n sheets fit =
    painted-lengthened n [] sheets (omega arith) fit
    ∙ ap (λ (k : ℕ). fold paint (replicate k zero_sector) sheets) (let e : n - 0 ≡ n = omega arith in e)

pub length-flat : (n : ℕ) (sheets : List (List Cell)) → All (FitsIn n) sheets → length (flat n sheets) ≡ n
length-flat n sheets fit = ap length (flat-over n sheets fit) ∙ length-painted (replicate n zero_sector) sheets n (length-replicate n zero_sector) fit

-- zeros that are added up to n and then up to m are added up to m
pub lengthened-twice : (n m : ℕ) (image : List (List ℕ)) → length image ≤ n → n ≤ m → lengthened m (lengthened n image) ≡ lengthened m image
lengthened-twice n m image short more =
    let size : length (lengthened n image) ≡ n = length-lengthened n image short in
    append_assoc image (replicate (n - length image) zero_sector) (replicate (m - length (lengthened n image)) zero_sector)
    ∙ ap (λ (r : List (List ℕ)). image ++ r)
    (replicate-append-replicate (n - length image) (m - length (lengthened n image)) zero_sector
    ∙ ap (λ (k : ℕ). replicate k zero_sector) (let e : n - length image + (m - length (lengthened n image)) ≡ m - length image = omega (arith, size, short, more) in e))

-- sheets that fit in n sectors, made up to m, are what they make in n, made up to m
pub flat-lengthened : (n m : ℕ) (sheets : List (List Cell)) → All (FitsIn n) sheets → n ≤ m → flat m sheets ≡ lengthened m (flat n sheets)
flat-lengthened n m sheets fit more = sym (lengthened-twice n m (fold paint [] sheets) (painted-fits n [] sheets (omega arith) fit) more)
  where
    painted-fits : (k : ℕ) (image : List (List ℕ)) (all : List (List Cell)) → length image ≤ k → All (FitsIn k) all → length (fold paint image all) ≤ k
    painted-fits k image [] short fits = short
    painted-fits k image (sheet ∷ rest) short fits =
        painted-fits k (paint image sheet) rest (paint-fits k image sheet short (All-head (FitsIn k) sheet rest fits)) (All-tail (FitsIn k) sheet rest fits)

-- the number of elements where some are replaced
pub length-put_at : {A : Type 0} (at : ℕ) (new old : List A) → at + length new ≤ length old → length (put_at at new old) ≡ length old
unfolding put_at
length-put_at at new old fits = simp (length-append, length-take, length-drop) (omega arith)

-- an image in three parts: those before a place, some from there on, and those behind
split_three : {A : Type 0} (at count : ℕ) (xs : List A) → xs ≡ take at xs ++ (take count (drop at xs) ++ drop (at + count) xs)
split_three at count xs =
    sym (ap (λ r. take at xs ++ r) (ap (λ r. take count (drop at xs) ++ r) (sym (drop-drop count at xs)) ∙ take-append-drop count (drop at xs)) ∙ take-append-drop at xs)

-- cells that make just these sectors of any sectors, put into a sheet: the sectors are put into the image
pub paint-put_at : (at : ℕ) (new : List Cell) (out : List (List ℕ)) (image : List (List ℕ)) (sheet : List Cell)
    → ((x : List (List ℕ)) → length x ≡ length new → paint x new ≡ out) → length out ≡ length new
    → length sheet ≡ length image → at + length new ≤ length image
    → paint image (put_at at new sheet) ≡ put_at at out (paint image sheet)
unfolding put_at
paint-put_at at new out image sheet makes same sizes fits =
    let front : length (take at image) ≡ length (take at sheet) = simp (length-take) (omega arith) in
    let middle : length (take (length new) (drop at image)) ≡ length new = simp (length-take, length-drop) (omega arith) in
    ap (λ r. paint r (take at sheet ++ (new ++ drop (at + length new) sheet))) (split_three at (length new) image)
    ∙ (paint-append (take at image) _ (take at sheet) _ front
    ∙ (ap (λ r. paint (take at image) (take at sheet) ++ r) (paint-append (take (length new) (drop at image)) _ new _ middle
    ∙ (ap (λ r. r ++ paint (drop (at + length new) image) (drop (at + length new) sheet)) (makes _ middle)
    ∙ (ap (λ r. out ++ r) (sym (drop-paint (at + length new) image sheet))
    ∙ ap (λ n. out ++ drop (at + n) (paint image sheet)) (sym same))))
    ∙ ap (λ r. r ++ (out ++ drop (at + length out) (paint image sheet))) (sym (take-paint at image sheet))))

-- the number of sectors that are read
pub length-image_in : (n : ℕ) (bytes : List ℕ) → length (image_in n bytes) ≡ n
length-image_in zero bytes = refl
length-image_in (suc n) bytes = ap suc (length-image_in n (drop 512 bytes))

pub length-sectors_in : (bytes : List ℕ) → length (sectors_in bytes) ≡ sector_count bytes
unfolding sectors_in
length-sectors_in bytes = length-image_in (sector_count bytes) bytes

-- sectors of 512 bytes
abbrev pub AreWhole : List (List ℕ) → Type 0
AreWhole image = All IsSector image

-- parts of an image as bytes
pub bytes_of-take : (n : ℕ) (image : List (List ℕ)) → AreWhole image → bytes_of (take n image) ≡ take (512 * n) (bytes_of image)
bytes_of-take zero image whole = refl
bytes_of-take (suc n) [] whole = sym (take-nil (512 * suc n))
bytes_of-take (suc n) (s ∷ ss) whole =
    ap (λ r. s ++ r) (bytes_of-take n ss (All-tail IsSector s ss whole))
    ∙ (sym (take-append-add s (bytes_of ss) (512 * n))
    ∙ ap (λ k. take k (s ++ bytes_of ss)) (let same : length s + 512 * n ≡ 512 * suc n = omega (arith, (All-head IsSector s ss whole)) in same))

pub bytes_of-drop : (n : ℕ) (image : List (List ℕ)) → AreWhole image → bytes_of (drop n image) ≡ drop (512 * n) (bytes_of image)
bytes_of-drop zero image whole = refl
bytes_of-drop (suc n) [] whole = sym (drop-nil (512 * suc n))
bytes_of-drop (suc n) (s ∷ ss) whole =
    bytes_of-drop n ss (All-tail IsSector s ss whole)
    ∙ (sym (drop-append-add s (bytes_of ss) (512 * n))
    ∙ ap (λ k. drop k (s ++ bytes_of ss)) (let same : length s + 512 * n ≡ 512 * suc n = omega (arith, (All-head IsSector s ss whole)) in same))

pub length-bytes_of : (image : List (List ℕ)) → AreWhole image → length (bytes_of image) ≡ 512 * length image
length-bytes_of [] whole = refl
length-bytes_of (s ∷ ss) whole = omega (arith, length-append s (bytes_of ss), length-bytes_of ss (All-tail IsSector s ss whole), (All-head IsSector s ss whole))

-- parts of whole sectors are whole
pub AreWhole-zeros : (n : ℕ) → AreWhole (replicate n zero_sector)
unfolding zero_sector
AreWhole-zeros n = All-replicate IsSector n zero_sector refl

pub AreWhole-image_in : (n : ℕ) (bytes : List ℕ) → 512 * n ≤ length bytes → AreWhole (image_in n bytes)
AreWhole-image_in zero bytes long = All-nil IsSector
AreWhole-image_in (suc n) bytes long =
    All-cons IsSector (take 512 bytes) (image_in n (drop 512 bytes))
    (let same : length (take 512 bytes) ≡ 512 = omega (arith, length-take 512 bytes) in same)
    (AreWhole-image_in n (drop 512 bytes) (omega (arith, length-drop 512 bytes)))

pub whole-sectors_in : (bytes : List ℕ) → AreWhole (sectors_in bytes)
unfolding sectors_in
whole-sectors_in bytes = AreWhole-image_in (sector_count bytes) bytes (omega arith)

pub AreWhole-put_at : (at : ℕ) (new image : List (List ℕ)) → AreWhole new → AreWhole image → AreWhole (put_at at new image)
unfolding put_at
AreWhole-put_at at new image wn wi =
    All-append IsSector (take at image) (new ++ drop (at + length new) image) (All-take IsSector at image wi)
    (All-append IsSector new (drop (at + length new) image) wn (All-drop IsSector (at + length new) image wi))

-- painting whole sectors with whole cells makes whole sectors
whole_under : (old : List ℕ) (cell : Cell) → IsSector old → IsCell cell → IsSector (painted old cell)
unfolding zero_sector
whole_under old Hole whole is = whole
whole_under old Zero whole is = refl
whole_under old (Filled new) whole is = is

pub AreSectors-paint : (image : List (List ℕ)) (cells : List Cell) → AreWhole image → All IsCell cells → AreWhole (paint image cells)
unfolding zero_sector
AreSectors-paint [] [] whole are = All-nil IsSector
AreSectors-paint [] (c ∷ cs) whole are =
    All-cons IsSector (painted zero_sector c) (paint [] cs) (whole_under zero_sector c refl (All-head IsCell c cs are)) (AreSectors-paint [] cs whole (All-tail IsCell c cs are))
AreSectors-paint (s ∷ ss) [] whole are = whole
AreSectors-paint (s ∷ ss) (c ∷ cs) whole are =
    All-cons IsSector (painted s c) (paint ss cs) (whole_under s c (All-head IsSector s ss whole) (All-head IsCell c cs are))
    (AreSectors-paint ss cs (All-tail IsSector s ss whole) (All-tail IsCell c cs are))

-- the cells of a sheet, of whatever length
abbrev pub AreCells : List Cell → Type 0
AreCells sheet = All IsCell sheet

AreSectors-painted : (image : List (List ℕ)) (sheets : List (List Cell)) → AreWhole image → All AreCells sheets → AreWhole (fold paint image sheets)
AreSectors-painted image [] whole are = whole
AreSectors-painted image (sheet ∷ sheets) whole are =
    AreSectors-painted (paint image sheet) sheets (AreSectors-paint image sheet whole (All-head AreCells sheet sheets are)) (All-tail AreCells sheet sheets are)

pub AreWhole-lengthened : (n : ℕ) (image : List (List ℕ)) → AreWhole image → AreWhole (lengthened n image)
AreWhole-lengthened n image whole =
    All-append IsSector image (replicate (n - length image) zero_sector) whole (AreWhole-zeros (n - length image))

pub AreSectors-flat : (n : ℕ) (sheets : List (List Cell)) → All AreCells sheets → AreWhole (flat n sheets)
AreSectors-flat n sheets are =
    AreWhole-lengthened n (fold paint [] sheets) (AreSectors-painted [] sheets (All-nil IsSector) are)

-- sectors put into an image are bytes put into its bytes
pub bytes_of-put_at : (at : ℕ) (new image : List (List ℕ)) → AreWhole new → AreWhole image
    → bytes_of (put_at at new image) ≡ put_at (512 * at) (bytes_of new) (bytes_of image)
unfolding put_at
bytes_of-put_at at new image wn wi =
    concat-append (take at image) (new ++ drop (at + length new) image)
    ∙ (ap (λ r. r ++ bytes_of (new ++ drop (at + length new) image)) (bytes_of-take at image wi)
    ∙ ap (λ r. take (512 * at) (bytes_of image) ++ r)
    (concat-append new (drop (at + length new) image)
    ∙ ap (λ r. bytes_of new ++ r) (bytes_of-drop (at + length new) image wi
    ∙ ap (λ k. drop k (bytes_of image)) (let same : 512 * (at + length new) ≡ 512 * at + length (bytes_of new) = omega (arith, length-bytes_of new wn) in same))))

-- bytes cut into sectors are the bytes again
pub bytes_of-image_in : (n : ℕ) (bytes : List ℕ) → length bytes ≡ 512 * n → bytes_of (image_in n bytes) ≡ bytes
bytes_of-image_in zero bytes long = sym (nil_from_length bytes long)
bytes_of-image_in (suc n) bytes long =
    ap (λ r. take 512 bytes ++ r) (bytes_of-image_in n (drop 512 bytes) (omega (arith, length-drop 512 bytes, long)))
    ∙ take-append-drop 512 bytes

pub bytes_of-zeros : (n : ℕ) → bytes_of (replicate n zero_sector) ≡ replicate {A = ℕ} (512 * n) 0
unfolding zero_sector
bytes_of-zeros zero = refl
bytes_of-zeros (suc n) =
    ap (λ r. replicate {A = ℕ} 512 0 ++ r) (bytes_of-zeros n)
    ∙ (replicate-append-replicate 512 (512 * n) 0
    ∙ ap (λ k. replicate {A = ℕ} k 0) (let same : 512 + 512 * n ≡ 512 * suc n = omega arith in same))
