use Rattle.std.proofs.Common.{◌≡◌, ℕ, ◌+◌, ◌*◌, ◌/◌, List, length, take, drop, subst, ◌∙◌, arith, IsTrue}
use Rattle.sector_extent.specs.CauseLaws.{calm_ok}
use Rattle.top_writer.specs.Files.{index_file}
use Rattle.top_writer.specs.declared.fault.TopFault.{TopFault}
use Rattle.top_writer.specs.Loading.{AreLoaded, StopsReading}
use Rattle.top_writer.proofs.ErrLaws.{if_err_is}
use Rattle.top_writer.proofs.QuietLaws.{quiet_none, quiet_on, read_later}
use Rattle.top_writer.proofs.RowTable.{loaded_none, loaded_more, putting_stops}
use Rattle.top_writer.proofs.load_rows.fill_table.Goals as goal

pub loop-number-init : goal.loop-number-init
loop-number-init g c = record {
  few = omega arith;
  quiet = quiet_none (g.D.Disk.state c.args.disk.now) (g.met.D.Disk.now_at c.args.disk.now);
  faults = omega arith;
  loaded = loaded_none g.D.Disk.tells c.args.sectors c.args.filled ((g.D.Disk.state c.args.disk.now).seen (index_file c.args.epoch)) c.args.table.now.segments c.requires.empty;
}

pub returns-in_err-read_at-clause-quiet : goal.returns-in_err-read_at-clause-quiet
returns-in_err-read_at-clause-quiet g c =
    let state = g.D.Disk.state in
    quiet_on c.index_number.result (state c.args.disk.now) (state c.loop-number.disk) (state c.read_at.new.self) c.loop-number.invariant.quiet (g.met.D.Disk.now_at c.loop-number.disk) c.read_at.ensures.steps

pub returns-in_err-put_rows-clause-quiet : goal.returns-in_err-put_rows-clause-quiet
returns-in_err-put_rows-clause-quiet g c =
    let state = g.D.Disk.state in
    quiet_on c.index_number.result (state c.args.disk.now) (state c.loop-number.disk) (state c.read_at.new.self) c.loop-number.invariant.quiet (g.met.D.Disk.now_at c.loop-number.disk) c.read_at.ensures.steps

pub returns-in_err-put_rows-clause-reason : goal.returns-in_err-put_rows-clause-reason
returns-in_err-put_rows-clause-reason g c =
    let state = g.D.Disk.state in
    let so_far = c.loop-number.invariant in
    let n : ℕ = c.loop-number.number in let k : ℕ = c.min-more.result in
    let piece : List ℕ = c.read_at.new.out in
    let index : List ℕ = (state c.args.disk.now).seen (index_file c.args.epoch) in
    let long : length piece ≡ 16 * k = c.read_at.auto.out ∙ c.split_at_mut-piece.ensures.front_len in
    let is : IsTrue g.D.Disk.tells → piece ≡ take (length piece) (drop (4096 + 16 * n) index) = λ told.
    read_later (state c.args.disk.now) (state c.loop-number.disk) c.index_number.result (index_file c.args.epoch) (4096 + 16 * n) piece so_far.quiet c.index_number.ensures (c.in_ok-read_at.ensures.bytes told) in
    if_err_is c.from_residual-in_err-put_rows.result c.in_err-put_rows.field-0.0 (λ (fault : TopFault). IsTrue g.D.Disk.tells → StopsReading c.args.sectors c.args.filled index c.args.rows fault)
    c.from_residual-in_err-put_rows.ensures.1
    (λ told. putting_stops g.D.Disk.tells c.args.sectors c.args.filled index piece n (length piece / 16) (length piece) c.args.rows c.loop-number.table.segments c.in_err-put_rows.field-0.0 so_far.loaded
    c.in_err-put_rows.ensures.reason (omega arith) (omega (arith, long)) told (is told))

pub loop-number-preserved : goal.loop-number-preserved
loop-number-preserved g c =
    let state = g.D.Disk.state in
    let so_far = c.loop-number.invariant in
    let n : ℕ = c.loop-number.number in let k : ℕ = c.min-more.result in
    let piece : List ℕ = c.read_at.new.out in
    let index : List ℕ = (state c.args.disk.now).seen (index_file c.args.epoch) in
    let long : length piece ≡ 16 * k = c.read_at.auto.out ∙ c.split_at_mut-piece.ensures.front_len in
    let is : IsTrue g.D.Disk.tells → piece ≡ take (length piece) (drop (4096 + 16 * n) index) = λ told.
    read_later (state c.args.disk.now) (state c.loop-number.disk) c.index_number.result (index_file c.args.epoch) (4096 + 16 * n) piece so_far.quiet c.index_number.ensures (c.in_ok-read_at.ensures.bytes told) in
    let whole : length piece / 16 ≡ k = omega (arith, long) in
    record {
      few = omega arith;
      quiet = quiet_on c.index_number.result (state c.args.disk.now) (state c.loop-number.disk) (state c.read_at.new.self) so_far.quiet (g.met.D.Disk.now_at c.loop-number.disk) c.read_at.ensures.steps;
      faults = calm_ok g.D.Disk.faults c.loop-number.disk c.read_at.new.self c.in_ok-read_at.ensures.cause ∙ so_far.faults;
      loaded = subst (λ (j : ℕ). AreLoaded g.D.Disk.tells c.args.sectors c.args.filled index (n + j) c.put_rows.new.table.segments) whole
          (loaded_more g.D.Disk.tells c.args.sectors c.args.filled index piece n (length piece / 16) (length piece) c.loop-number.table.segments c.put_rows.new.table.segments so_far.loaded
          c.in_ok-put_rows.ensures.puts (omega arith) is);
    }
