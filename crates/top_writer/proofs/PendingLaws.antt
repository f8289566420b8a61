-- Stretches that are joined, and that are parted.
use Rattle.std.proofs.Common.{◌≡◌, ℕ, ◌+◌, ◌-◌, ◌<◌, ◌≤◌, List, [], ◌∷◌, length, refl, sym, ap, subst, ◌∙◌, arith, inl, inr, Option, Some, None}
use Rattle.std.specs.Prelude.{◌^◌, take, drop, slice_index_or}
use Rattle.std.proofs.lemmas.List.{drop_more, length-take-le}
use Rattle.std.proofs.lemmas.Bool.Decides.{leb_tells}
use Rattle.sector_extent.specs.declared.extent.Extent.{Extent}
use Rattle.seg_table.specs.declared.segment.Segment.{Segment}
use Rattle.seg_table.specs.declared.segment.What.{What}
use Rattle.seg_table.specs.declared.segment.What.TheVariants as what
use Rattle.seg_table.specs.Cells.{onward}
use Rattle.seg_table.specs.Pieces.{AreUnset, IsNext, AreCells, end_of}
use Rattle.top_writer.specs.declared.stretch.Stretch.{Stretch}
use Rattle.top_writer.specs.Reading.{along, Says, AreLow, Pending, IsJoined, IsParted}

along_on : (w : Option What) (a b : ℕ) → along (along w a) b ≡ along w (a + b)
along_on None a b = refl
along_on (Some what.Zero) a b = refl
along_on (Some (what.Place place)) a b = ap (λ (p : ℕ). Some (what.Place p)) (let e : place + a + b ≡ place + (a + b) = omega arith in e)

pub says_gap : (cells : ℕ → Option What) (from until : ℕ) (at count : ℕ) (w : Option What) → at ≡ from → at + count ≡ until → w ≡ None
    → AreUnset cells from until → Says cells at count w
says_gap cells from until at count w begins ends none unset i lt =
    unset (at + i) (omega (arith, begins)) (omega (arith, ends, lt)) ∙ sym (ap (λ (o : Option What). along o i) none)

pub says_segment : (cells : ℕ → Option What) (from : ℕ) (segment : Segment) (at count : ℕ) (w : Option What) → at ≡ segment.extent.at → count ≡ segment.extent.count → w ≡ Some segment.what
    → IsNext cells from segment → Says cells at count w
says_segment cells from segment at count w begins size is next i lt =
    ap (λ (k : ℕ). cells (k + i)) begins
    ∙ next.says (segment.extent.at + i) (record { from = omega arith; below = omega (arith, lt, size) })
    ∙ ap (λ (k : ℕ). Some (onward segment.what k)) (let e : segment.extent.at + i - segment.extent.at ≡ i = omega arith in e)
    ∙ sym (ap (λ (o : Option What). along o i) is)

-- what stands beside the last place of a stretch
pub low_end : (cells : ℕ → Option What) (at count place : ℕ) (w : Option What) → AreLow cells → Says cells at count w → 0 < count → w ≡ Some (what.Place place) → place + count ≤ 2 ^ 31
low_end cells at count place w low says some is =
    let last = low (at + (count - 1)) (place + (count - 1)) (says (count - 1) (omega (arith, some)) ∙ ap (λ (o : Option What). along o (count - 1)) is) in
    omega (arith, last, some)

joined_says : (cells : ℕ → Option What) (first next : Stretch) → next.at ≡ first.at + first.count → Says cells first.at first.count first.what → Says cells next.at next.count next.what
    → next.what ≡ along first.what first.count → Says cells first.at (first.count + next.count) first.what
joined_says cells first next behind one two goes i lt = elim (leb_tells first.count i) [
  | inl e ↦ let k : ℕ = i - first.count in
      ap cells (let s : first.at + i ≡ next.at + k = omega (arith, behind, e.1) in s)
      ∙ two k (omega (arith, lt, e.1))
      ∙ ap (λ (o : Option What). along o k) goes
      ∙ along_on first.what first.count k
      ∙ ap (along first.what) (let s : first.count + k ≡ i = omega (arith, e.1) in s)
  | inr e ↦ one i e.1
]

pub pending_joined : (cells : ℕ → Option What) (extent : Extent) (first next both : Stretch) → Pending cells extent first → next.at ≡ first.at + first.count
    → next.at + next.count ≤ extent.at + extent.count → Says cells next.at next.count next.what → IsJoined first next both → Pending cells extent both
pending_joined cells extent first next both pending behind within says (inl same) = subst (Pending cells extent) (sym same.1) pending
pending_joined cells extent first next both pending behind within says (inr (inl same)) =
    let start : next.at ≡ extent.at = omega (arith, behind, same.0, pending.empty same.0) in
    subst (Pending cells extent) (sym same.1) (record {
      from = omega (arith, start);
      to = within;
      says = says;
      empty = λ none. start;
      fresh = λ none. inl start;
    })
pending_joined cells extent first next both pending behind within says (inr (inr goes)) =
    subst (Pending cells extent) (sym goes.1) (record {
      from = pending.from;
      to = omega (arith, behind, within);
      says = joined_says cells first next behind pending.says says goes.2;
      empty = λ none. absurd (omega (arith, none, goes.0));
      fresh = pending.fresh;
    })

-- where both are as one, it begins where the first one began or where that was empty
pub joined_begin : (first next both : Stretch) → next.at ≡ first.at + first.count → IsJoined first next both → both.at ≡ first.at
joined_begin first next both behind (inl same) = ap (λ (s : Stretch). s.at) same.1
joined_begin first next both behind (inr (inl same)) = let a : both.at ≡ next.at = ap (λ (s : Stretch). s.at) same.1 in omega (arith, a, behind, same.0)
joined_begin first next both behind (inr (inr goes)) = ap (λ (s : Stretch). s.at) goes.1

pub joined_end : (first next both : Stretch) → next.at ≡ first.at + first.count → IsJoined first next both → both.at + both.count ≡ next.at + next.count
joined_end first next both behind (inl same) =
    let a : both.at ≡ first.at = ap (λ (s : Stretch). s.at) same.1 in let b : both.count ≡ first.count = ap (λ (s : Stretch). s.count) same.1 in omega (arith, a, b, behind, same.0)
joined_end first next both behind (inr (inl same)) =
    let a : both.at ≡ next.at = ap (λ (s : Stretch). s.at) same.1 in let b : both.count ≡ next.count = ap (λ (s : Stretch). s.count) same.1 in omega (arith, a, b)
joined_end first next both behind (inr (inr goes)) =
    let a : both.at ≡ first.at = ap (λ (s : Stretch). s.at) goes.1 in let b : both.count ≡ first.count + next.count = ap (λ (s : Stretch). s.count) goes.1 in omega (arith, a, b, behind)

some_is_not_none : (w : What) → Some w ≡ None → ⊥
some_is_not_none w e = cc

last_is_set : (cells : ℕ → Option What) (at count : ℕ) (w next : Option What) → 0 < count → Says cells at count w → next ≡ None → ¬ (next ≡ along w count) → ¬ (cells (at + count - 1) ≡ None)
last_is_set cells at count None next some says none unlike = λ e. unlike none
last_is_set cells at count (Some w) next some says none unlike = λ e.
    some_is_not_none (onward w (count - 1)) (sym (says (count - 1) (omega (arith, some))) ∙ ap cells (let s : at + (count - 1) ≡ at + count - 1 = omega (arith, some) in s) ∙ e)

pub pending_next : (cells : ℕ → Option What) (extent : Extent) (first next : Stretch) → Pending cells extent first → next.at ≡ first.at + first.count
    → next.at + next.count ≤ extent.at + extent.count → Says cells next.at next.count next.what → IsParted first next → Pending cells extent next
pending_next cells extent first next pending behind within says parted = record {
  from = omega (arith, pending.from, behind);
  to = within;
  says = says;
  empty = λ none. absurd (omega (arith, none, parted.next_some));
  fresh = λ none. inr (λ e. last_is_set cells first.at first.count first.what next.what parted.first_some pending.says none parted.unlike
      (ap (λ (k : ℕ). cells (k - 1)) (sym behind) ∙ e));
}

-- the first stretch of a read
pub pending_start : (cells : ℕ → Option What) (extent : Extent) (run : Stretch) → run.at ≡ extent.at → run.count ≡ 0 → Pending cells extent run
pending_start cells extent run begins none = record {
  from = omega (arith, begins);
  to = omega (arith, begins, none);
  says = λ i lt. absurd (omega (arith, lt, none));
  empty = λ e. begins;
  fresh = λ e. inl begins;
}

-- pieces of a range
pub cells_order : (cells : ℕ → Option What) (from until : ℕ) (pieces : List Segment) → AreCells cells from until pieces → from ≤ until
cells_order cells from until [] are = are.0
cells_order cells from until (piece ∷ pieces) are = omega (arith, are.0.begins, cells_order cells (end_of piece) until pieces are.1)

pub cells_further : (cells : ℕ → Option What) (from until : ℕ) (pieces : List Segment) → AreCells cells from until pieces → 0 < length pieces → from < until
cells_further cells from until [] are some = absurd (omega (arith, some))
cells_further cells from until (piece ∷ pieces) are some = omega (arith, are.0.begins, are.0.sound.some, cells_order cells (end_of piece) until pieces are.1)

-- the next of the pieces that are left
pub cells_at : (cells : ℕ → Option What) (from until : ℕ) (pieces : List Segment) (i : ℕ) (piece : Segment) → i < length pieces → piece ≡ slice_index_or pieces i piece
    → AreCells cells from until (drop i pieces) → IsNext cells from piece × (end_of piece ≤ until) × AreCells cells (end_of piece) until (drop (i + 1) pieces)
cells_at cells from until pieces i piece lt is are =
    let parts : drop i pieces ≡ piece ∷ drop (i + 1) pieces = drop_more pieces i piece lt ∙ ap (λ (p : Segment). p ∷ drop (i + 1) pieces) (sym is) in
    let both : AreCells cells from until (piece ∷ drop (i + 1) pieces) = subst (AreCells cells from until) parts are in
    (both.0, cells_order cells (end_of piece) until (drop (i + 1) pieces) both.1, both.1)

-- a search that did not reach the end of its range filled its slice, and so came further
pub found_further : (cells : ℕ → Option What) (from until end number : ℕ) (out : List Segment) → from < end → AreCells cells from until (take number out) → number ≤ length out → 0 < length out
    → (until < end → number ≡ length out) → from < until
found_further cells from until end number out more are within some full = elim (leb_tells end until) [
  | inl e ↦ omega (arith, e.1, more)
  | inr e ↦ cells_further cells from until (take number out) are (omega (arith, length-take-le number out within, full e.1, some))
]
