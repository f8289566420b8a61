use Rattle.std.proofs.Common.{◌≡◌, ℕ, List, length, ap}
use Rattle.top_writer.specs.Files.{index_file}
use Rattle.top_writer.specs.View.{view_of}
use Rattle.top_writer.proofs.StoreGoes.{all_synced, goes_rows, goes_data_sync, goes_index_sync, goes_stored, all_stored}
use Rattle.top_writer.proofs.top.Top.store.Goals as goal

pub returns-in_err-append_rows-clause-goes : goal.returns-in_err-append_rows-clause-goes
returns-in_err-append_rows-clause-goes g c =
    goes_rows g.D.Disk.tells (g.D.Disk.state c.args.disk.now) (g.D.Disk.state c.append_rows.new.disk) c.args.self.now (length c.args.self.now.waiting.items)
    (λ files left. g.met.D.Disk.now_at c.args.disk.now files left) c.append_rows.ensures.steps

pub returns-in_err-sync_data-clause-goes : goal.returns-in_err-sync_data-clause-goes
returns-in_err-sync_data-clause-goes g c =
    goes_data_sync g.D.Disk.tells (g.D.Disk.state c.args.disk.now) (g.D.Disk.state c.append_rows.new.disk) (g.D.Disk.state c.sync_data.new.disk) c.args.self.now
    (goes_rows g.D.Disk.tells (g.D.Disk.state c.args.disk.now) (g.D.Disk.state c.append_rows.new.disk) c.args.self.now (length c.args.self.now.waiting.items)
    (λ files left. g.met.D.Disk.now_at c.args.disk.now files left) c.append_rows.ensures.steps)
    c.sync_data.ensures.steps

pub returns-in_err-sync_rows-clause-goes : goal.returns-in_err-sync_rows-clause-goes
returns-in_err-sync_rows-clause-goes g c =
    goes_index_sync g.D.Disk.tells (g.D.Disk.state c.args.disk.now) (g.D.Disk.state c.sync_data.new.disk) (g.D.Disk.state c.sync_rows.new.disk) c.args.self.now
    (goes_data_sync g.D.Disk.tells (g.D.Disk.state c.args.disk.now) (g.D.Disk.state c.append_rows.new.disk) (g.D.Disk.state c.sync_data.new.disk) c.args.self.now
    (goes_rows g.D.Disk.tells (g.D.Disk.state c.args.disk.now) (g.D.Disk.state c.append_rows.new.disk) c.args.self.now (length c.args.self.now.waiting.items)
    (λ files left. g.met.D.Disk.now_at c.args.disk.now files left) c.append_rows.ensures.steps)
    c.sync_data.ensures.steps)
    c.sync_rows.ensures.steps

pub returns-clause-goes : goal.returns-clause-goes
returns-clause-goes g c =
    let p = c.args.self.now in
    let q = record p { synced = p.rows; waiting = c.clear.new.self } in
    let same : view_of q ≡ all_synced (view_of p) = ap (λ (w : List ℕ). record (view_of p) { synced = p.rows; waiting = w }) c.clear.ensures.items in
    goes_stored g.D.Disk.tells (g.D.Disk.state c.args.disk.now) (g.D.Disk.state c.append_rows.new.disk) (g.D.Disk.state c.sync_data.new.disk) (g.D.Disk.state c.sync_rows.new.disk) p q same
    (record {
      written = c.in_ok-append_rows.ensures.written;
      rows_steps = c.append_rows.ensures.steps;
      data_steps = c.sync_data.ensures.steps;
      data_durable = c.in_ok-sync_data.ensures.durable;
      index_steps = c.sync_rows.ensures.steps;
      index_durable = c.in_ok-sync_rows.ensures.durable;
      stays = λ told. g.met.D.Disk.seen_may_stay c.args.disk.now (index_file p.epoch) told;
      told = λ f x left. g.met.D.Disk.told c.sync_rows.new.disk f x left;
    })
    (goes_index_sync g.D.Disk.tells (g.D.Disk.state c.args.disk.now) (g.D.Disk.state c.sync_data.new.disk) (g.D.Disk.state c.sync_rows.new.disk) p
    (goes_data_sync g.D.Disk.tells (g.D.Disk.state c.args.disk.now) (g.D.Disk.state c.append_rows.new.disk) (g.D.Disk.state c.sync_data.new.disk) p
    (goes_rows g.D.Disk.tells (g.D.Disk.state c.args.disk.now) (g.D.Disk.state c.append_rows.new.disk) p (length p.waiting.items)
    (λ files left. g.met.D.Disk.now_at c.args.disk.now files left) c.append_rows.ensures.steps)
    c.sync_data.ensures.steps)
    c.sync_rows.ensures.steps)

pub returns-clause-stored : goal.returns-clause-stored
returns-clause-stored g c =
    let p = c.args.self.now in
    let q = record p { synced = p.rows; waiting = c.clear.new.self } in
    let same : view_of q ≡ all_synced (view_of p) = ap (λ (w : List ℕ). record (view_of p) { synced = p.rows; waiting = w }) c.clear.ensures.items in
    all_stored g.D.Disk.tells (g.D.Disk.state c.args.disk.now) (g.D.Disk.state c.append_rows.new.disk) (g.D.Disk.state c.sync_data.new.disk) (g.D.Disk.state c.sync_rows.new.disk) p q same
    (record {
      written = c.in_ok-append_rows.ensures.written;
      rows_steps = c.append_rows.ensures.steps;
      data_steps = c.sync_data.ensures.steps;
      data_durable = c.in_ok-sync_data.ensures.durable;
      index_steps = c.sync_rows.ensures.steps;
      index_durable = c.in_ok-sync_rows.ensures.durable;
      stays = λ told. g.met.D.Disk.seen_may_stay c.args.disk.now (index_file p.epoch) told;
      told = λ f x left. g.met.D.Disk.told c.sync_rows.new.disk f x left;
    })
