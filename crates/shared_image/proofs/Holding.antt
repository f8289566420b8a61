-- What the steps of an image say of a turn.
use Rattle.std.proofs.Common.{◌≡◌, ℕ, ◌+◌, ◌*◌, ◌^◌, ◌<◌, ◌≤◌, inl, inr, List, length, sym, subst, arith}
use Rattle.sector_extent.specs.Rows.{rows_for}
use Rattle.flat_image.specs.declared.act.Act.TheVariants.{Write, Zero}
use Rattle.flat_image.specs.Sectors.{sector_count}
use Rattle.flat_image.specs.Ports.{HasRoomFor, IsOverFor}
use Rattle.flat_image.specs.declared.base.Base.{Base}
use Rattle.flat_image.specs.History.{History, now, Proper, IsOver, HasRoom, used_rows, used_sectors}
use Rattle.flat_image.proofs.HistoryLaws.{size-rises}

-- what lies in the image as it was at the start lies in it as it is
pub within_size : (base : Base) (history : History) (n end : ℕ) → Proper base history → n ≡ (now base history).sectors → end ≤ base.sectors → end ≤ n
within_size base history n end proper is within = let rises = size-rises base history proper in omega (arith, is, rises, within)

-- not over is in
pub in_room : (rows filled : ℕ) → (IsOver rows filled → ⊥) → HasRoom rows filled
in_room rows filled not_over =
    let r : (2 ^ 22 < rows) → ⊥ = λ more. not_over (inl more) in
    let f : (2 ^ 30 < filled) → ⊥ = λ more. not_over (inr more) in
    record { rows_fit = grind (arith, r); sectors_fit = grind (arith, f) }

-- what a change would use, where its bytes are whole sectors
pub write_over : (base : Base) (history : History) (rows filled at count : ℕ) (bytes : List ℕ) → length bytes ≡ 512 * count → rows ≡ used_rows base history → filled ≡ used_sectors base history
    → IsOver (rows + rows_for count) (filled + count) → IsOverFor base history (Write at bytes)
write_over base history rows filled at count bytes size r f over =
    let c : sector_count bytes ≡ count = omega (arith, size) in
    subst (λ (k : ℕ). IsOver (used_rows base history + rows_for k) (used_sectors base history + k)) (sym c)
    (subst (λ (k : ℕ). IsOver (k + rows_for count) (used_sectors base history + count)) r (subst (λ (k : ℕ). IsOver (rows + rows_for count) (k + count)) f over))

pub write_fits : (base : Base) (history : History) (rows filled at count : ℕ) (bytes : List ℕ) → length bytes ≡ 512 * count → rows ≡ used_rows base history → filled ≡ used_sectors base history
    → (IsOver (rows + rows_for count) (filled + count) → ⊥) → HasRoomFor base history (Write at bytes)
write_fits base history rows filled at count bytes size r f not_over =
    let c : sector_count bytes ≡ count = omega (arith, size) in
    let room = in_room (rows + rows_for count) (filled + count) not_over in
    subst (λ (k : ℕ). HasRoom (used_rows base history + rows_for k) (used_sectors base history + k)) (sym c)
    (subst (λ (k : ℕ). HasRoom (k + rows_for count) (used_sectors base history + count)) r (subst (λ (k : ℕ). HasRoom (rows + rows_for count) (k + count)) f room))

pub zero_over : (base : Base) (history : History) (rows filled at count : ℕ) → rows ≡ used_rows base history → filled ≡ used_sectors base history
    → IsOver (rows + rows_for count) filled → IsOverFor base history (Zero at count)
zero_over base history rows filled at count r f over =
    let none : used_sectors base history + 0 ≡ used_sectors base history = omega arith in
    subst (λ (k : ℕ). IsOver (used_rows base history + rows_for count) k) (sym none)
    (subst (λ (k : ℕ). IsOver (k + rows_for count) (used_sectors base history)) r (subst (λ (k : ℕ). IsOver (rows + rows_for count) k) f over))

pub zero_fits : (base : Base) (history : History) (rows filled at count : ℕ) → rows ≡ used_rows base history → filled ≡ used_sectors base history
    → (IsOver (rows + rows_for count) filled → ⊥) → HasRoomFor base history (Zero at count)
zero_fits base history rows filled at count r f not_over =
    let none : used_sectors base history + 0 ≡ used_sectors base history = omega arith in
    subst (λ (k : ℕ). HasRoom (used_rows base history + rows_for count) k) (sym none)
    (subst (λ (k : ℕ). HasRoom (k + rows_for count) (used_sectors base history)) r (subst (λ (k : ℕ). HasRoom (rows + rows_for count) k) f (in_room (rows + rows_for count) filled not_over)))
