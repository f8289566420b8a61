-- Which layers form a stack.
use Rattle.std.specs.Prelude.{◌≡◌, ◌≢◌, ℕ, ◌≤◌, List, [], ◌∷◌, length, All}
use Rattle.lsmt_header.specs.Blocks.{nil}
use Rattle.lsmt_header.specs.declared.head.Head.{Head}

-- each head has the uuid of the one below as its parent; the lowest one's is given
abbrev pub AreStacked : List ℕ → List Head → Type 0
AreStacked parent [] = Unit {0}
AreStacked parent (head ∷ above) = (head.parent ≡ parent) × AreStacked head.uuid above

-- no two heads have one uuid
abbrev pub AreUnlike : List Head → Type 0
AreUnlike [] = Unit {0}
AreUnlike (head ∷ above) = All (λ other. other.uuid ≢ head.uuid) above × AreUnlike above

-- of a list that begins with the lowest what stands uppermost, or the given one where the list is empty
abbrev pub uppermost : {A : Type 0} → A → List A → A
uppermost none [] = none
uppermost none (lowest ∷ above) = uppermost lowest above

-- numbers of sectors, the lowest layer's first, do not fall, from low on, and are at most n
abbrev pub AreRising : ℕ → ℕ → List ℕ → Type 0
AreRising low n [] = low ≤ n
AreRising low n (size ∷ above) = (low ≤ size) × AreRising size n above

-- the head may stand over a layer of n sectors: with version 1 it has as many, and with version 2 at least as many
pub record StandsOn (n : ℕ) (head : Head) : Type 0 where
  pub same : head.version ≡ 1 → head.sectors ≡ n
  pub taller : head.version ≡ 2 → n ≤ head.sectors

-- each of the heads may stand over the one below, and the lowest over a layer of n sectors
abbrev pub AreSized : ℕ → List Head → Type 0
AreSized n [] = Unit {0}
AreSized n (head ∷ above) = StandsOn n head × AreSized head.sectors above

-- each of the heads past the lowest may stand over the one below
abbrev pub AreSizedOver : List Head → Type 0
AreSizedOver [] = Unit {0}
AreSizedOver (lowest ∷ above) = AreSized lowest.sectors above

-- the heads, the lowest first, are those of a stack
pub record Legal (heads : List Head) : Type 0 where
  pub some : 1 ≤ length heads
  pub few : length heads ≤ 255
  pub sizes : AreSizedOver heads
  pub stacked : AreStacked nil heads
  pub unlike : AreUnlike heads
