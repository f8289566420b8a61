use Rattle.std.proofs.Common.{◌≡◌, ℕ, ◌^◌, ◌≤◌, List, Option, sym, ap, ◌∙◌, arith}
use Rattle.top_writer.specs.Files.{Stored, rows_said, sectors_said, HeadsAsked}
use Rattle.top_writer.specs.Reasons.{HasMark, HasCounts}
use Rattle.top_writer.proofs.load_checks.check_counts.Goals as goal

counted : (n : ℕ) (asked : HeadsAsked) (t : Stored) (got body : List ℕ) (rows sectors : ℕ) → got ≡ body → rows ≡ rows_said got → sectors ≡ sectors_said got → HasMark n asked t body
    → rows ≤ 2 ^ 22 → sectors ≤ 2 ^ 30 → HasCounts n asked t rows sectors
counted n asked t got body rows sectors same is_rows is_sectors mark few small = record {
  body = body;
  mark = mark;
  rows_are = sym (is_rows ∙ ap rows_said same);
  sectors_are = sym (is_sectors ∙ ap sectors_said same);
  room = record { rows_fit = few; sectors_fit = small };
}

pub returns-then-index_len-rows-clause-reason : goal.returns-then-index_len-rows-clause-reason
returns-then-index_len-rows-clause-reason c = λ n asked t mark index bytes. (
  c.counts_of-rows.result.0,
  c.counts_of-rows.result.1,
  counted n asked t c.get.result _ c.counts_of-rows.result.0 c.counts_of-rows.result.1 c.get.ensures c.counts_of-rows.ensures.rows c.counts_of-rows.ensures.sectors mark (omega arith) (omega arith),
  omega (arith, index),
)

pub returns-then-bytes_len-sectors-clause-reason : goal.returns-then-bytes_len-sectors-clause-reason
returns-then-bytes_len-sectors-clause-reason c = λ n asked t mark index bytes. (
  c.counts_of-rows.result.0,
  c.counts_of-rows.result.1,
  counted n asked t c.get.result _ c.counts_of-rows.result.0 c.counts_of-rows.result.1 c.get.ensures c.counts_of-rows.ensures.rows c.counts_of-rows.ensures.sectors mark (omega arith) (omega arith),
  omega (arith, index),
  omega (arith, bytes),
)
