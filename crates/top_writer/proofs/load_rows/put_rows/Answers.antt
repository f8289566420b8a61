use Rattle.std.proofs.Common.{◌≡◌, ℕ, ◌+◌, ◌-◌, ◌*◌, List, length, take, drop, sym, ap, subst, ◌∙◌, arith}
use Rattle.std.proofs.lemmas.List.{drop-drop}
use Rattle.seg_table.specs.declared.segment.Segment.{Segment}
use Rattle.top_writer.specs.Loading.{Puts}
use Rattle.top_writer.proofs.RowTable.{puts_more}
use Rattle.top_writer.proofs.load_rows.put_rows.Goals as goal

pub loop-bytes-preserved : goal.loop-bytes-preserved
loop-bytes-preserved c =
    let so_far = c.loop-bytes.invariant in
    let k : ℕ = c.loop-bytes.number - c.args.number in
    let next : c.loop-bytes.number + 1 - c.args.number ≡ k + 1 = omega (arith, so_far.more) in
    let bytes_are : c.in-Some.bytes.now ≡ take 16 c.loop-bytes.left.now = c.in-Some.ensures.cases.0 in
    let rest_are : c.in-Some.rest.now ≡ drop 16 c.loop-bytes.left.now = c.in-Some.ensures.cases.1 in
    let long : length c.in-Some.rest.now + 16 ≡ length c.loop-bytes.left.now = c.in-Some.ensures.cases.2 in
    let puts : Puts c.args.sectors c.args.filled c.args.piece.now c.args.table.now.segments c.reserve.new.self.segments k =
    subst (λ (xs : List Segment). Puts c.args.sectors c.args.filled c.args.piece.now c.args.table.now.segments xs k) (sym c.reserve.ensures.same) so_far.puts in
    record {
      more = omega (arith, so_far.more);
      left = rest_are ∙ ap (λ (bytes : List ℕ). drop 16 bytes) so_far.left
          ∙ drop-drop 16 (16 * k) c.args.piece.now
          ∙ ap (λ (j : ℕ). drop j c.args.piece.now) (omega (arith, next));
      count = omega (arith, next, long, so_far.count);
      puts = subst (λ (j : ℕ). Puts c.args.sectors c.args.filled c.args.piece.now c.args.table.now.segments c.put_row.new.table.segments j) (let e : k + 1 ≡ c.loop-bytes.number + 1 - c.args.number = omega (arith, next) in e)
          (puts_more c.args.sectors c.args.filled c.args.piece.now c.in-Some.bytes.now c.args.table.now.segments c.reserve.new.self.segments c.put_row.new.table.segments k c.in_ok-row.row
          puts (bytes_are ∙ ap (λ (bytes : List ℕ). take 16 bytes) so_far.left) c.in_ok-row.ensures.spelled c.in_ok-row.ensures.sound c.put_row.ensures.cells);
    }
