-- Runs of pieces that are joined, and that are read.
use Rattle.std.proofs.Common.{◌≡◌, ℕ, ◌+◌, ◌-◌, ◌<◌, ◌≤◌, List, [], ◌∷◌, length, take, drop, refl, sym, ap, subst, ◌∙◌, arith, inl, inr}
use Rattle.std.specs.Prelude.{Option, IfSome, slice_index_or}
use Rattle.std.proofs.lemmas.List.{drop_more, length-take-le}
use Rattle.std.proofs.lemmas.Bool.Decides.{leb_tells}
use Rattle.std.proofs.lemmas.Option.{IfSome_then}
use Rattle.merged_index.specs.declared.piece.Piece.{Piece}
use Rattle.merged_index.specs.declared.piece.PieceWhat.{PieceWhat}
use Rattle.merged_index.specs.declared.piece.PieceWhat.TheVariants.{Hole, Zero, Filled}
use Rattle.merged_index.specs.Pieces.{end_of, onward, Fits, IsPiece, AreCells}
use Rattle.merged_index.specs.Painting.{sector_of}
use Rattle.image_core.specs.Whole.{sectors_by, IsFilled, LiesIn, IsReadable, AreOnShelf, IsJoined, cells_on, Pending}
use Rattle.image_core.proofs.FilledSectors.{fills-as}

onward-on : (w : PieceWhat) (a b : ℕ) → onward (onward w a) b ≡ onward w (a + b)
onward-on Hole a b = refl
onward-on Zero a b = refl
onward-on (Filled layer place) a b = ap (Filled layer) (let e : place + a + b ≡ place + (a + b) = omega arith in e)

-- a piece of cells that name files of a shelf may be read of it
readable-what : (files : ℕ) (w : PieceWhat) (cell : PieceWhat) (steps count : ℕ) → ((layer place : ℕ) → cell ≡ Filled layer place → layer < files) → cell ≡ onward w steps → Fits w count
    → IsReadable files w count
readable-what files Hole cell steps count named is fits = tt
readable-what files Zero cell steps count named is fits = tt
readable-what files (Filled layer place) cell steps count named is fits = (named layer (place + steps) is, fits.1)

readable : (files : ℕ) (cells : ℕ → PieceWhat) (from : ℕ) (piece : Piece) → AreOnShelf files cells → IsPiece cells from piece → IsReadable files piece.what piece.extent.count
readable files cells from piece named is =
    let first : ℕ = piece.extent.at in
    readable-what files piece.what (cells first) (first - first) piece.extent.count (named first) (is.says first (record { from = omega arith; below = omega (arith, is.some) })) is.fits

pub pending-next : (files : ℕ) (cells : ℕ → PieceWhat) (at size from : ℕ) (piece : Piece) → AreOnShelf files cells → IsPiece cells from piece → LiesIn at size piece.extent
    → Pending files cells at size piece
pending-next files cells at size from piece named is there = record { there = there; readable = readable files cells from piece named is; says = is.says }

readable-both : (files : ℕ) (first next : PieceWhat) (steps more count : ℕ) → next ≡ onward first steps → count ≡ steps + more → IsReadable files next more → IsReadable files first count
readable-both files Hole next steps more count goes sum may = tt
readable-both files Zero next steps more count goes sum may = tt
readable-both files (Filled layer place) next steps more count goes sum may =
    let may_both : IsReadable files (Filled layer (place + steps)) more = subst (λ (w : PieceWhat). IsReadable files w more) goes may in
    (may_both.0, omega (arith, may_both.1, sum))

pub pending-joined : (files : ℕ) (cells : ℕ → PieceWhat) (at size : ℕ) (first next both : Piece) → AreOnShelf files cells → Pending files cells at size first
    → IsPiece cells (end_of first) next → LiesIn at size next.extent → IsJoined first next both → Pending files cells at size both
pending-joined files cells at size first next both named pending is there joined =
    let begins : both.extent.at ≡ first.extent.at = joined.begins in
    let ends : end_of both ≡ end_of next = joined.ends in
    let sum : both.extent.count ≡ first.extent.count + next.extent.count = omega (arith, begins, ends, is.begins) in
    let one : (sector : ℕ) → onward both.what (sector - both.extent.at) ≡ onward first.what (sector - first.extent.at) = λ sector.
    (λ i. onward (joined.what i) (sector - begins i)) in
    record {
      there = record { from = omega (arith, begins, pending.there.from); to = omega (arith, ends, there.to) };
      readable = subst (λ (w : PieceWhat). IsReadable files w both.extent.count) (sym joined.what)
          (readable-both files first.what next.what first.extent.count next.extent.count both.extent.count joined.goes_on sum (readable files cells (end_of first) next named is));
      says = λ sector among. elim (leb_tells (end_of first) sector) [
        | inl e ↦
            is.says sector (record { from = omega (arith, is.begins, e.1); below = omega (arith, among.below, ends) })
            ∙ ap (λ (w : PieceWhat). onward w (sector - next.extent.at)) joined.goes_on
            ∙ onward-on first.what first.extent.count (sector - next.extent.at)
            ∙ ap (onward first.what) (let s : first.extent.count + (sector - next.extent.at) ≡ sector - first.extent.at = omega (arith, is.begins, e.1) in s)
            ∙ sym (one sector)
        | inr e ↦ pending.says sector (record { from = omega (arith, among.from, begins); below = e.1 }) ∙ sym (one sector)
      ];
    }

-- a run that was read has the cells of its sectors
run-filled : (files : List (List ℕ)) (count : ℕ) (cells : ℕ → PieceWhat) (at size : ℕ) (run : Piece) (until : ℕ) (old new : List ℕ) → Pending count cells at size run → until ≡ end_of run
    → IsFilled (sectors_by files (cells_on run)) at run.extent.at (end_of run) old new → IsFilled (sectors_by files cells) at run.extent.at until old new
run-filled files count cells at size run until old new pending end is =
    subst (λ (k : ℕ). IsFilled (sectors_by files cells) at run.extent.at k old new) (sym end)
    (fills-as (sectors_by files (cells_on run)) (sectors_by files cells) at run.extent.at (end_of run) old new
    (λ i low high. ap (sector_of files) (sym (pending.says i (record { from = low; below = high })))) is)

-- and so in the files that a shelf tells
pub run-read : (told : Option (List (List ℕ))) (count : ℕ) (cells : ℕ → PieceWhat) (at size : ℕ) (run : Piece) (until : ℕ) (old new : List ℕ) → Pending count cells at size run → until ≡ end_of run
    → IfSome told (λ files. IsFilled (sectors_by files (cells_on run)) at run.extent.at (end_of run) old new)
    → IfSome told (λ files. IsFilled (sectors_by files cells) at run.extent.at until old new)
run-read told count cells at size run until old new pending end is =
    IfSome_then told is (λ files filled. run-filled files count cells at size run until old new pending end filled)

-- no sectors
pub pending-none : (files : ℕ) (cells : ℕ → PieceWhat) (at size : ℕ) (run : Piece) → run.extent.count ≡ 0 → run.what ≡ Hole → LiesIn at size run.extent → Pending files cells at size run
pending-none files cells at size run none what there = record {
  there = there;
  readable = subst (λ (w : PieceWhat). IsReadable files w run.extent.count) (sym what) tt;
  says = λ sector among. absurd (omega (arith, none, among.from, among.below));
}

-- pieces of a range
cells-order : (cells : ℕ → PieceWhat) (from until : ℕ) (pieces : List Piece) → AreCells cells from until pieces → from ≤ until
cells-order cells from until [] are = omega (arith, are)
cells-order cells from until (piece ∷ pieces) are = omega (arith, are.0.begins, cells-order cells (end_of piece) until pieces are.1)

cells-further : (cells : ℕ → PieceWhat) (from until : ℕ) (pieces : List Piece) → AreCells cells from until pieces → 0 < length pieces → from < until
cells-further cells from until [] are some = absurd (omega (arith, some))
cells-further cells from until (piece ∷ pieces) are some = omega (arith, are.0.begins, are.0.some, cells-order cells (end_of piece) until pieces are.1)

-- the next of the pieces that are left
pub cells-at : (cells : ℕ → PieceWhat) (from until : ℕ) (pieces : List Piece) (i : ℕ) (piece : Piece) → i < length pieces → piece ≡ slice_index_or pieces i piece
    → AreCells cells from until (drop i pieces) → IsPiece cells from piece × (end_of piece ≤ until) × AreCells cells (end_of piece) until (drop (i + 1) pieces)
cells-at cells from until pieces i piece lt is are =
    let parts : drop i pieces ≡ piece ∷ drop (i + 1) pieces = drop_more pieces i piece lt ∙ ap (λ (p : Piece). p ∷ drop (i + 1) pieces) (sym is) in
    let both : AreCells cells from until (piece ∷ drop (i + 1) pieces) = subst (AreCells cells from until) parts are in
    (both.0, cells-order cells (end_of piece) until (drop (i + 1) pieces) both.1, both.1)

-- a search that did not reach the end of its range filled its slice, and so came further
pub found-further : (cells : ℕ → PieceWhat) (from until end number : ℕ) (out : List Piece) → from < end → AreCells cells from until (take number out) → number ≤ length out → 0 < length out
    → (until < end → number ≡ length out) → from < until
found-further cells from until end number out more are within some full = elim (leb_tells end until) [
  | inl e ↦ omega (arith, e.1, more)
  | inr e ↦ cells-further cells from until (take number out) are (omega (arith, length-take-le number out within, full e.1, some))
]
