-- The sums of an image's sectors, one after another.
use Rattle.std.proofs.Common.{◌≡◌, ℕ, zero, suc, ◌+◌, ◌-◌, ◌*◌, ◌/◌, ◌<◌, ◌≤◌, List, [], ◌∷◌, ◌++◌, length, take, drop, refl, sym, ap, ◌∙◌, subst, arith}
use Rattle.std.specs.Prelude.{All, sum_by}
use Rattle.std.proofs.lemmas.List.Sums.{sum_by-cons}
use Rattle.std.proofs.lemmas.List.{take_all, take_at, drop_at}
use Rattle.std.proofs.lemmas.List.Elements.{All-head, All-tail}
use Rattle.flat_image.specs.Sheets.{bytes_of, image_in, IsSector}
use Rattle.flat_image.specs.Sectors.{sectors_in}
use Rattle.flat_image.proofs.Painting.{length-bytes_of}

sum-front : (f : List ℕ → ℕ) (left : ℕ) (rest : List ℕ) → 0 < left
    → sum_by f (image_in left rest) ≡ f (take 512 rest) + sum_by f (image_in (left - 1) (drop 512 rest))
sum-front f zero rest some = absurd (omega (arith, some))
sum-front f (suc k) rest some =
    let one : k ≡ suc k - 1 = omega arith in
    subst (λ (n : ℕ). sum_by f (image_in (suc k) rest) ≡ f (take 512 rest) + sum_by f (image_in n (drop 512 rest))) one
    (sum_by-cons f (take 512 rest) (image_in k (drop 512 rest)))

sectors-of : (bytes : List ℕ) → image_in (length bytes / 512) bytes ≡ sectors_in bytes
unfolding sectors_in
sectors-of bytes = refl

-- before the first sector
pub none-summed : (f : List ℕ → ℕ) (bytes : List ℕ) → 0 + sum_by f (image_in (length bytes / 512) bytes) ≡ sum_by f (sectors_in bytes)
none-summed f bytes =
    let e : sum_by f (image_in (length bytes / 512) bytes) ≡ sum_by f (sectors_in bytes) = ap (λ (image : List (List ℕ)). sum_by f image) (sectors-of bytes) in
    omega (arith, e)

-- one sector more
pub one-summed : (f : List ℕ → ℕ) (left : ℕ) (rest front behind : List ℕ) (done more all : ℕ) → 0 < left → front ≡ take 512 rest → behind ≡ drop 512 rest
    → more ≡ f front → done + sum_by f (image_in left rest) ≡ all → (done + more) + sum_by f (image_in (left - 1) behind) ≡ all
one-summed f left rest front behind done more all some front_is behind_is is so_far =
    let e : sum_by f (image_in left rest) ≡ f (take 512 rest) + sum_by f (image_in (left - 1) (drop 512 rest)) = sum-front f left rest some in
    let m : more ≡ f (take 512 rest) = is ∙ ap f front_is in
    subst (λ (b : List ℕ). (done + more) + sum_by f (image_in (left - 1) b) ≡ all) (sym behind_is) (omega (arith, e, m, so_far))

-- and behind the last
pub all-summed : (f : List ℕ → ℕ) (left : ℕ) (rest : List ℕ) (done all : ℕ) → left ≤ 0 → done + sum_by f (image_in left rest) ≡ all → done ≡ all
all-summed f zero rest done all none is = let n : sum_by f (image_in 0 rest) ≡ 0 = refl in omega (arith, is, n)
all-summed f (suc k) rest done all none is = absurd (omega (arith, none))

-- ---- an image that stands as bytes

image-back : (n : ℕ) (image : List (List ℕ)) → length image ≡ n → All IsSector image → image_in n (bytes_of image) ≡ image
image-back zero [] long whole = refl
image-back zero (s ∷ image) long whole = absurd (cc)
image-back (suc n) [] long whole = absurd (cc)
image-back (suc n) (s ∷ image) long whole =
    let size : length s ≡ 512 = All-head IsSector s image whole in
    let rest : length image ≡ n = cc in
    let front : take 512 (s ++ bytes_of image) ≡ s = take_at s (bytes_of image) 512 size in
    let back : drop 512 (s ++ bytes_of image) ≡ bytes_of image = drop_at s (bytes_of image) 512 size in
    λ i. front i ∷ (ap (λ (b : List ℕ). image_in n b) back ∙ image-back n image rest (All-tail IsSector s image whole)) i

pub sectors-back : (image : List (List ℕ)) (at n : ℕ) (bytes : List ℕ) → at ≡ 0 → length image ≡ n → All IsSector image → bytes ≡ bytes_of (take n (drop at image))
    → sectors_in bytes ≡ image
sectors-back image at n bytes first long whole are =
    let none : drop at image ≡ image = ap (λ (k : ℕ). drop k image) first in
    let all : bytes ≡ bytes_of image =
    are ∙ ap (λ (l : List (List ℕ)). bytes_of (take n l)) none ∙ ap (λ (l : List (List ℕ)). bytes_of l) (take_all n image (omega (arith, long))) in
    let size : length (bytes_of image) ≡ 512 * length image = length-bytes_of image whole in
    let count : length (bytes_of image) / 512 ≡ length image = omega (arith, size) in
    ap (λ (b : List ℕ). sectors_in b) all
    ∙ sym (sectors-of (bytes_of image))
    ∙ ap (λ (k : ℕ). image_in k (bytes_of image)) count
    ∙ image-back (length image) image refl whole
