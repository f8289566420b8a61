-- Small runs of `make`, and what the definitions give of them.
use Rattle.std.specs.Prelude.{◌≡◌, ℕ, [], ◌∷◌, codes, replicate}
use Rattle.flat_image.specs.declared.act.Act.TheVariants as act
use Rattle.image_make.specs.Draws.{state_after}
use Rattle.image_make.specs.Acts.{made_acts, tally_of}
use Rattle.image_make.specs.Lines.{made_lines}
use Rattle.image_make.specs.Sums.{filled_in, sum_in}

-- the first six draws of the seed 1, the two acts that they are, and what is printed of these
pub record TwoActs : Type 0 where
  pub first : state_after 1 1 ≡ 1103527590
  pub second : state_after 1 2 ≡ 377401575
  pub third : state_after 1 3 ≡ 662824084
  pub fourth : state_after 1 4 ≡ 1147902781
  pub fifth : state_after 1 5 ≡ 2035015474
  pub sixth : state_after 1 6 ≡ 368800899
  pub acts : made_acts 1 2 ≡ act.Write 1662 (replicate {A = ℕ} 512 169) ∷ act.Write 2971 (replicate {A = ℕ} 4096 18) ∷ []
  pub sectors : filled_in (replicate {A = ℕ} 512 169 ∷ replicate {A = ℕ} 512 0 ∷ []) ≡ 1
  pub bytes : sum_in (replicate {A = ℕ} 512 169 ∷ replicate {A = ℕ} 512 0 ∷ []) ≡ 86528
  pub lines : made_lines 2 (tally_of 1 2) 9 160256
      ≡ codes "made acts 2 writes 2 zeros 0 flushes 0 commits 0 refused 0\nimage sectors 4096 filled 9 sum 160256\n"
