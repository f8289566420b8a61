use Rattle.std.proofs.Common.{◌≡◌, ℕ, ◌+◌, ◌-◌, ◌*◌, ◌<◌, List, ◌++◌, length, take, drop, refl, sym, ap, ◌∙◌, subst, arith}
use Rattle.std.specs.Prelude.{slice_index_or}
use Rattle.flat_image.specs.Sheets.{Hole, painted}
use Rattle.flat_image.specs.RowCells.{sector_at}
use Rattle.image_core.specs.Upper.{IsOverlaid}
use Rattle.image_core.proofs.FilledSectors.{sector-part, part-filled}
use Rattle.image_core.proofs.Planned.{part-sector}
use Rattle.image_core.proofs.upper.read_within.Goals as goal

pub returns-clause-bytes : goal.returns-clause-bytes
returns-clause-bytes g c told n asked s may fits sheet =
    let e = c.args.extent in
    let old : List ℕ = c.args.out.now in
    let front : List ℕ = c.split_at_mut-rest.result.0.now in
    let rest : List ℕ = c.split_at_mut-rest.result.1.now in
    let before : List ℕ = c.split_at_mut-part.result.0.now in
    let piece : List ℕ = c.read_part.new.out in
    let back : List ℕ = c.split_at_mut-part.result.1.now in
    let skip : ℕ = e.at - c.args.at in
    let part : before ≡ take (512 * e.count) (drop (512 * skip) old) =
    c.split_at_mut-part.ensures.front
    ∙ (λ i. take ((let k : e.count * 512 ≡ 512 * e.count = omega arith in k) i) ((c.split_at_mut-rest.ensures.back ∙ ap (λ (k : ℕ). drop k old) (let k : skip * 512 ≡ 512 * skip = omega arith in k)) i)) in
    let size : length before ≡ 512 * e.count = omega (arith, c.split_at_mut-part.ensures.front_len) in
    let says : (i : ℕ) → i < e.count → sector_at piece i ≡ painted (sector_at old (e.at + i - c.args.at)) (slice_index_or s.cells (e.at + i) Hole) =
    λ i below.
    part-sector s.cells n sheet e.at e.count before piece size (omega (arith, c.requires.within, fits.holds.sectors)) (c.in_ok-read_part.ensures.bytes told n asked s may fits) i below
    ∙ ap (λ (x : List ℕ). painted x (slice_index_or s.cells (e.at + i) Hole))
    (ap (λ (l : List ℕ). sector_at l i) part ∙ (sector-part old skip e.count i below ∙ ap (sector_at old) (let k : skip + i ≡ e.at + i - c.args.at = omega (arith, c.requires.there.from) in k))) in
    let it : IsOverlaid s.cells c.args.at e.at (e.at + e.count) old (front ++ (piece ++ back)) =
    part-filled (λ i. painted (sector_at old (i - c.args.at)) (slice_index_or s.cells i Hole)) c.args.at e.at e.count (skip * 512) (e.count * 512) old front rest piece back
    c.requires.there.from (omega arith) (omega arith) c.split_at_mut-rest.ensures.front c.split_at_mut-rest.ensures.back c.split_at_mut-part.ensures.back
    c.requires.there.to (omega (arith, c.read_part.ensures.size, size)) says in it
