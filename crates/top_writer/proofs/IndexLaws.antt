-- An index file under writes behind its rows.
use Rattle.std.proofs.Common.{◌≡◌, ℕ, ◌+◌, ◌*◌, ◌≤◌, List, [], ◌∷◌, ◌++◌, length, take, drop, refl, sym, ap, subst, ◌∙◌, arith, length-append}
use Rattle.std.proofs.lemmas.List.{take_all}
use Rattle.block_disk.specs.Changes.{piece, put, Torn}
use Rattle.block_disk.specs.ChangeLaws.{torn_put, length-put}
use Rattle.block_disk.specs.Pieces.{put_piece}
use Rattle.seg_mapping.specs.declared.Row.{Row}
use Rattle.seg_mapping.specs.Rows.{RowOf}
use Rattle.lsmt_header.specs.Blocks.{BlockOf, raw_head}
use Rattle.flat_image.specs.RowCells.{AreSpelled}
use Rattle.flat_image.proofs.SpelledRows.{spelled_joined, spelled_in}
use Rattle.top_writer.specs.Files.{IsSizeFor, size_said, HeadsAsked}
use Rattle.top_writer.specs.Fitting.{HasFront, IsIndex}
use Rattle.top_writer.proofs.Fronts.{front_less, front_torn, piece_front}

front_itself : (size : ℕ) (file : List ℕ) → size ≤ length file → HasFront size file file
front_itself size file le = record { long = le; same = refl }

spelled_front : (size at : ℕ) (whole file : List ℕ) (rows : List Row) → at + 16 * length rows ≤ size → HasFront size whole file → AreSpelled whole at rows → AreSpelled file at rows
spelled_front size at whole file [] le front are = tt
spelled_front size at whole file (row ∷ rows) le front are = (
  subst (λ (b : List ℕ). RowOf b row) (sym (piece_front at 16 size whole file (omega (arith, le)) front)) are.0,
  spelled_front size (at + 16) whole file rows (omega (arith, le)) front are.1,
)

pub index_front : (n : ℕ) (asked : HeadsAsked) (size : ℕ) (whole file : List ℕ) (rows : List Row) → 4096 + 16 * length rows ≤ size → HasFront size whole file → IsIndex n asked whole rows → IsIndex n asked file rows
unfolding size_said
index_front n asked size whole file rows le front is =
    let same = (front_less 4096 size whole file (omega (arith, le)) front).same in
    record {
      head = (is.head.0, subst (λ (b : List ℕ). BlockOf b is.head.0) (sym same) is.head.1, is.head.2);
      size = subst (IsSizeFor asked.exact n) (sym (ap (λ (b : List ℕ). (raw_head b).sectors) same)) is.size;
      long = omega (arith, le, front.long);
      spelled = spelled_front size 4096 whole file rows le front is.spelled;
    }

-- a write behind the rows leaves them, also where it is torn
pub index_torn : (n : ℕ) (asked : HeadsAsked) (at size : ℕ) (old new : List ℕ) (rows : List Row) → 4096 + 16 * length rows ≤ at → Torn at size old new → IsIndex n asked old rows → IsIndex n asked new rows
index_torn n asked at size old new rows le torn is =
    let k : ℕ = 4096 + 16 * length rows in
    index_front n asked k old new rows (omega arith) (front_torn k at size old old new le torn (front_itself k old is.long)) is

-- a write of more rows just behind them
pub index_put : (n : ℕ) (asked : HeadsAsked) (at : ℕ) (old bytes : List ℕ) (rows more : List Row) → 4096 + 16 * length rows ≡ at → length bytes ≡ 16 * length more
    → AreSpelled bytes 0 more → IsIndex n asked old rows → IsIndex n asked (put old at bytes) (rows ++ more)
index_put n asked at old bytes rows more is_at size spelled is =
    let new : List ℕ = put old at bytes in
    let first : IsIndex n asked new rows = index_torn n asked at (length bytes) old new rows (omega (arith, is_at)) (torn_put at (length bytes) old bytes (omega arith)) is in
    let behind : bytes ≡ take (length bytes) (drop at new) =
    sym (ap (λ (k : ℕ). piece k (length bytes) new) (let e : at ≡ at + 0 = omega arith in e)
    ∙ put_piece old at bytes 0 (length bytes) (omega arith)
    ∙ take_all (length bytes) bytes (omega arith)) in
    record {
      head = first.head;
      size = first.size;
      long = omega (arith, length-put old at bytes, length-append rows more, size, is_at);
      spelled = spelled_joined new 4096 rows more first.spelled
          (subst (λ (k : ℕ). AreSpelled new k more) (let e : at + 0 ≡ 4096 + 16 * length rows = omega (arith, is_at) in e)
          (spelled_in new bytes at 0 (length bytes) more behind (omega (arith, size)) spelled));
    }
