-- The sectors of layers over one another: in a stack they do not fall, and a sealed layer may stand over the one below.
use Rattle.std.proofs.Common.{◌≡◌, ℕ, zero, suc, ◌≤◌, Bool, true, false, cond, List, [], ◌∷◌, ◌++◌, length, map, get_or, refl, subst, sym, ap, inl, inr, arith}
use Rattle.std.proofs.lemmas.Bool.Decides.{nat_tests}
use Rattle.std.proofs.lemmas.Grind.{get_or_head}
use Rattle.std.specs.Prelude.{nat_lt, IfSome}
use Rattle.lsmt_header.specs.declared.head.Head.{Head}
use Rattle.flat_image.specs.declared.base.Base.{Base}
use Rattle.flat_image.specs.Sheets.{Cell}
use Rattle.flat_image.specs.Stacks.{uppermost, AreRising, StandsOn, AreSized}
use Rattle.flat_image.specs.LayerFiles.{LayerFile, AreHeadsOf}
use Rattle.flat_image.specs.LayerReading.{size_in}
use Rattle.flat_image.specs.Base.{top_uuid, top_size, IsFrozen}
use Rattle.flat_image.specs.CanonicalLaws.{HeadStands}
use Rattle.flat_image.specs.HistoryLaws.{SealedStands}
use Rattle.flat_image.proofs.LayerLaws.{size_in-layer}

-- numbers that do not fall
pub rising-low : (low n : ℕ) (sizes : List ℕ) → AreRising low n sizes → low ≤ n
rising-low low n [] rising = rising
rising-low low n (size ∷ sizes) rising = omega (arith, rising.0, rising-low size n sizes rising.1)

pub rising-more : (low n m : ℕ) (sizes : List ℕ) → n ≤ m → AreRising low n sizes → AreRising low m sizes
rising-more low n m [] more rising = omega (arith, more, rising)
rising-more low n m (size ∷ sizes) more rising = (rising.0, rising-more size n m sizes more rising.1)

pub rising-push : (low n : ℕ) (files : List (List ℕ)) (file : List ℕ) → size_in file ≡ n → AreRising low n (map size_in files)
    → AreRising low n (map size_in (files ++ file ∷ []))
rising-push low n [] file is rising = (omega (arith, is, rising), omega (arith, is))
rising-push low n (other ∷ files) file is rising = (rising.0, rising-push (size_in other) n files file is rising.1)

-- the uppermost stands at the last place
pub uppermost-at : {A B : Type 0} (field : A → B) (none : B) (xs : List A) (i : ℕ) (d : A) → suc i ≡ length xs
    → uppermost none (map field xs) ≡ field (get_or xs i d)
uppermost-at field none [] i d last = absurd (omega (arith, last))
uppermost-at field none (x ∷ []) i d last = sym (ap field (get_or_head x [] i d (omega (arith, last))))
uppermost-at field none (x ∷ next ∷ xs) zero d last = absurd (omega (arith, last))
uppermost-at field none (x ∷ next ∷ xs) (suc i) d last = uppermost-at field (field x) (next ∷ xs) i d (omega (arith, last))

-- the uppermost of them is at most n
pub rising-uppermost : (low n : ℕ) (sizes : List ℕ) → AreRising low n sizes → uppermost low sizes ≤ n
rising-uppermost low n [] rising = rising
rising-uppermost low n (size ∷ sizes) rising = rising-uppermost size n sizes rising.1

-- a sheet of version 1 has the sectors of the layer below
version_1 : (below len : ℕ) (taller : Bool) → nat_lt below len ≡ taller → below ≤ len → cond {A = ℕ} taller 2 1 ≡ 1 → len ≡ below
version_1 below len true is le version = absurd (omega (arith, version))
version_1 below len false is le version = grind (arith, nat_tests)

pub head-stands : (uuid parent : List ℕ) (below : ℕ) (sheet : List Cell) → HeadStands uuid parent below sheet
head-stands uuid parent below sheet le = record {
  same = version_1 below (length sheet) (nat_lt below (length sheet)) refl le;
  taller = λ version. le;
}

-- the uppermost of files that rise up to n has at most n sectors
pub top_size-most : (n : ℕ) (files : List (List ℕ)) → AreRising 0 n (map size_in files) → top_size n files ≤ n
top_size-most n [] rising = omega arith
top_size-most n (file ∷ files) rising = rising-uppermost (size_in file) n (map size_in files) rising.1

pub sealed-stands : (b : Base) → SealedStands b
sealed-stands b f is base =
    let frozen : IsFrozen b.sectors f = subst (λ o. IfSome o (IsFrozen b.sectors)) is base.frozen_is in
    let files : List (List ℕ) = b.lowers ++ b.done in
    let rising : AreRising 0 (length f.sheet) (map size_in files) = subst (λ (n : ℕ). AreRising 0 n (map size_in files)) (sym frozen.sheet_is.count) base.rising in
    head-stands f.uuid (top_uuid files) (top_size (length f.sheet) files) f.sheet (top_size-most (length f.sheet) files rising)

-- a layer that may stand over another has no fewer sectors
pub stands-rises : (low : ℕ) (file : List ℕ) (head : Head) (sheet : List Cell) → LayerFile file head sheet → StandsOn low head → low ≤ head.sectors
stands-rises low file head sheet is stands =
    elim is.layer.framed.front.valid.version [
      | inl one ↦ omega (arith, stands.same one)
      | inr two ↦ stands.taller two.1
    ]

-- so in a stack the sectors do not fall
pub stack-rises : (low n : ℕ) (files : List (List ℕ)) (heads : List Head) → AreHeadsOf files heads → AreSized low heads
    → uppermost low (map (λ head. head.sectors) heads) ≤ n → AreRising low n (map size_in files)
stack-rises low n [] [] are sized most = most
stack-rises low n [] (head ∷ heads) are sized most = absurd are
stack-rises low n (file ∷ files) [] are sized most = absurd are
stack-rises low n (file ∷ files) (head ∷ heads) are sized most =
    let size : head.sectors ≡ size_in file = sym (size_in-layer file head are.0.sheet are.0.layer) in (
      subst (λ (k : ℕ). low ≤ k) size (stands-rises low file head are.0.sheet are.0.layer sized.0),
      subst (λ (k : ℕ). AreRising k n (map size_in files)) size (stack-rises head.sectors n files heads are.1 sized.1 most),
    )
