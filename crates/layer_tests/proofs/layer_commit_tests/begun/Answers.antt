use Rattle.std.proofs.Common.{◌≡◌, ℕ, ◌^◌, ◌≤◌, List, [], length, take, ap, ◌∙◌, arith, rules, None}
use Rattle.std.proofs.lemmas.List.{take_all}
use Rattle.std.proofs.lemmas.List.FromFn.{length-map-range_with_len}
use Rattle.block_disk.specs.MemDisk.{mem_state}
use Rattle.seg_table.specs.Cells.{Table, cells_of}
use Rattle.layer_commit.specs.Sources.{cell_at, table_sheet}
use Rattle.layer_commit.proofs.SmallSheets.{small-sheet}
use Rattle.layer_tests.proofs.layer_commit_tests.begun.Goals as goal

sheet_long : (n : ℕ) (table : Table) → length (table_sheet [] n table) ≡ n
unfolding table_sheet
sheet_long n table = length-map-range_with_len (λ i. cell_at [] (cells_of table i)) 0 n

pub loop-run-init : goal.loop-run-init
loop-run-init c = record {
  within = λ i le. c.new-table.ensures.cells i;
  low = λ i place is. absurd (let none : cells_of c.new-table.result i ≡ None = c.new-table.ensures.cells i in cc);
}

pub begin-requires-clause-low : goal.begin-requires-clause-low
begin-requires-clause-low c = λ i place is. omega (arith, c.loop-run.invariant.low i place is)

pub begin-requires-clause-few : goal.begin-requires-clause-few
begin-requires-clause-few c =
    let small : c.args.case.now.sectors ≤ 2 ^ 23 = search rules in
    ([], small-sheet (table_sheet [] c.args.case.now.sectors c.loop-run.table) (omega (arith, small, sheet_long c.args.case.now.sectors c.loop-run.table)))

pub returns : goal.returns
returns c =
    let stored : List ℕ = (mem_state c.args.disk.now).seen 11 in
    let long : length stored ≡ 327680 = search rules in
    let b = c.in_ok-sealing.ensures in (
      stored,
      record {
        sound = b.sound;
        within = b.within stored (λ i place is. omega (arith, long, c.loop-run.invariant.low i place is));
        source = λ t. ap (λ (f : ℕ). take (length stored) ((mem_state c.size.new.self).seen f)) b.from_is
            ∙ ap (take (length stored)) c.size.ensures.steps.seen
            ∙ take_all (length stored) stored (omega arith);
        written = λ t some. absurd (omega (arith, b.none, some));
      },
    )
