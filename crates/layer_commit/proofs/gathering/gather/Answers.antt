use Rattle.std.proofs.Common.{◌≡◌, ℕ, ◌+◌, List, [], sym, subst, ap, arith, rules}
use Rattle.seg_table.specs.Cells.{cells_of}
use Rattle.layer_commit.specs.declared.source.Source.{Source}
use Rattle.layer_commit.specs.Sources.{counted}
use Rattle.layer_commit.proofs.GatherLaws.{Gathered, gather_started, gather_more, gather_all}
use Rattle.layer_commit.proofs.gathering.gather.Goals as goal

pub loop-segment-init : goal.loop-segment-init
loop-segment-init c =
    let none : c.new-2.result.items ≡ [] = c.new-2.ensures.items in
    record {
      from = omega arith;
      gathered = gather_started (cells_of c.args.table.now) c.new.result c.new-2.result.items none c.new.ensures.rows c.new.ensures.end;
      filled = ap (λ (l : List Source). 8 + counted l) (sym none);
      room = omega arith;
    }

pub loop-segment-preserved : goal.loop-segment-preserved
loop-segment-preserved c =
    let so_far = c.loop-segment.invariant in
    let s = c.in-Some.segment in
    let adds = c.in_ok-add.ensures.adds in
    record {
      from = omega (arith, c.end-from.ensures, s.extent.in_image);
      gathered = subst (λ (k : ℕ). Gathered (cells_of c.args.table.now) k c.add.new.self.rows c.add.new.self.sources.items) (sym c.end-from.ensures)
          (gather_more (cells_of c.args.table.now) c.loop-segment.from c.loop-segment.gathering.rows c.add.new.self.rows c.loop-segment.gathering.sources.items c.add.new.self.sources.items s
          so_far.gathered c.in-Some.ensures.next adds);
      filled = c.in_ok-add.ensures.filled;
      room = omega (arith, c.in_ok-add.ensures.room, c.end-from.ensures);
    }

pub returns-clause-all : goal.returns-clause-all
returns-clause-all c =
    gather_all (cells_of c.args.table.now) c.loop-segment.from c.loop-segment.gathering.rows c.loop-segment.gathering.sources.items c.loop-segment.invariant.gathered
    (search rules)
