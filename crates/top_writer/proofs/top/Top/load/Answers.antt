use Rattle.std.proofs.Common.{◌≡◌, ℕ, [], ◌∷◌, List, subst}
use Rattle.block_disk.specs.Claims.{Quiet}
use Rattle.block_disk.specs.DiskState.{DiskState}
use Rattle.flat_image.specs.Left.{Stand}
use Rattle.top_writer.specs.declared.top.Top.{Top}
use Rattle.top_writer.specs.Files.{Stored, stored_in, data_file, index_file, asked_of}
use Rattle.top_writer.specs.Fitting.{TopFits, ViewFits}
use Rattle.top_writer.specs.Loading.{StopsReading, AreLoaded}
use Rattle.top_writer.proofs.LoadLaws.{found_later, stop_refused, refused_reason, refused_complete, IsLoad, load_is, loaded_view}
use Rattle.top_writer.proofs.OneStand.{one_stand}
use Rattle.top_writer.proofs.QuietLaws.{quiet_joined, quiet_seen}
use Rattle.top_writer.proofs.top.Top.load.Goals as goal

pub returns-in_err-found-clause-complete : goal.returns-in_err-found-clause-complete
returns-in_err-found-clause-complete g c =
    let state = g.D.Disk.state in
    let t : Stored = stored_in c.args.epoch (state c.args.disk.now).seen in
    λ s.
    refused_complete g.D.Disk.tells c.args.sectors (asked_of c.args.exact c.args.parent) t c.from_residual.result c.in_err-found.field-0.0
    (λ (top : Top). TopFits g.D.Disk.tells (state c.find.new.disk) c.args.sectors (asked_of c.args.exact c.args.parent) top s (s ∷ [])) c.from_residual.ensures.1
    c.in_err-found.ensures.reason s

pub returns-in_err-table-clause-quiet : goal.returns-in_err-table-clause-quiet
returns-in_err-table-clause-quiet g c =
    let state = g.D.Disk.state in
    quiet_joined (state c.args.disk.now) (state c.find.new.disk) (state c.read_table.new.disk) c.find.ensures.quiet c.read_table.ensures.quiet

pub returns-clause-quiet : goal.returns-clause-quiet
returns-clause-quiet g c =
    let state = g.D.Disk.state in
    quiet_joined (state c.args.disk.now) (state c.find.new.disk) (state c.read_table.new.disk) c.find.ensures.quiet c.read_table.ensures.quiet

pub returns-in_err-table-clause-reason : goal.returns-in_err-table-clause-reason
returns-in_err-table-clause-reason g c =
    let state = g.D.Disk.state in
    let t : Stored = stored_in c.args.epoch (state c.args.disk.now).seen in
    let fault = c.in_err-table.field-0.0 in
    let found = c.in_ok-found.found in
    let same : (state c.find.new.disk).seen (index_file c.args.epoch) ≡ t.index = quiet_seen (state c.args.disk.now) (state c.find.new.disk) c.find.ensures.quiet (index_file c.args.epoch) in
    refused_reason g.D.Disk.tells c.args.sectors (asked_of c.args.exact c.args.parent) t c.from_residual-in_err-table.result fault c.from_residual-in_err-table.ensures.1
    (λ told. stop_refused c.args.sectors (asked_of c.args.exact c.args.parent) t found.rows found.filled fault (c.in_ok-found.ensures.found.told told).whole
    (subst (λ (index : List ℕ). StopsReading c.args.sectors found.filled index found.rows fault) same (c.in_err-table.ensures.reason told)))

pub returns-in_err-table-clause-complete : goal.returns-in_err-table-clause-complete
returns-in_err-table-clause-complete g c =
    let state = g.D.Disk.state in
    let t : Stored = stored_in c.args.epoch (state c.args.disk.now).seen in
    let fault = c.in_err-table.field-0.0 in
    let found = c.in_ok-found.found in
    let same : (state c.find.new.disk).seen (index_file c.args.epoch) ≡ t.index = quiet_seen (state c.args.disk.now) (state c.find.new.disk) c.find.ensures.quiet (index_file c.args.epoch) in
    λ s.
    refused_complete g.D.Disk.tells c.args.sectors (asked_of c.args.exact c.args.parent) t c.from_residual-in_err-table.result fault
    (λ (top : Top). TopFits g.D.Disk.tells (state c.read_table.new.disk) c.args.sectors (asked_of c.args.exact c.args.parent) top s (s ∷ [])) c.from_residual-in_err-table.ensures.1
    (λ told. stop_refused c.args.sectors (asked_of c.args.exact c.args.parent) t found.rows found.filled fault (c.in_ok-found.ensures.found.told told).whole
    (subst (λ (index : List ℕ). StopsReading c.args.sectors found.filled index found.rows fault) same (c.in_err-table.ensures.reason told)))
    s

pub returns-clause-shows : goal.returns-clause-shows
returns-clause-shows g c =
    let state = g.D.Disk.state in
    let old : DiskState = state c.args.disk.now in let mid : DiskState = state c.find.new.disk in let new : DiskState = state c.read_table.new.disk in
    let t : Stored = stored_in c.args.epoch old.seen in
    let found = c.in_ok-found.found in
    let tells = g.D.Disk.tells in
    let all : Quiet old new = quiet_joined old mid new c.find.ensures.quiet c.read_table.ensures.quiet in
    let same : mid.seen (index_file c.args.epoch) ≡ t.index = quiet_seen old mid c.find.ensures.quiet (index_file c.args.epoch) in
    let loaded : AreLoaded tells c.args.sectors found.filled t.index found.rows c.in_ok-table.table.segments =
    subst (λ (index : List ℕ). AreLoaded tells c.args.sectors found.filled index found.rows c.in_ok-table.table.segments) same c.in_ok-table.ensures.loaded in
    let is : IsLoad tells new c.args.sectors (asked_of c.args.exact c.args.parent) t (loaded_view c.args.epoch c.args.sectors found.mark c.in_ok-table.table.segments found.rows found.filled c.new.result.items) =
    load_is tells new c.args.epoch c.args.sectors (asked_of c.args.exact c.args.parent) t found.mark c.in_ok-table.table.segments found.rows found.filled c.new.result.items
    c.requires.epoch c.new.ensures.items (g.met.D.Disk.told c.read_table.new.disk)
    (quiet_seen old new all (data_file c.args.epoch))
    (found_later tells mid new c.args.epoch c.args.sectors (asked_of c.args.exact c.args.parent) t found.mark found.rows found.filled c.read_table.ensures.quiet c.in_ok-found.ensures.found)
    loaded in
    (is.stand, is.fits, is.shows, is.blank)

pub returns-clause-complete : goal.returns-clause-complete
returns-clause-complete g c = λ s shows low told.
    let state = g.D.Disk.state in
    let one = returns-clause-shows g c in
    let t : Stored = stored_in c.args.epoch (state c.args.disk.now).seen in
    let found = c.in_ok-found.found in
    subst (λ (u : Stand). ViewFits g.D.Disk.tells (state c.read_table.new.disk) c.args.sectors (asked_of c.args.exact c.args.parent)
    (loaded_view c.args.epoch c.args.sectors found.mark c.in_ok-table.table.segments found.rows found.filled c.new.result.items) u (u ∷ []))
    (one_stand c.args.sectors (asked_of c.args.exact c.args.parent) one.0 s t (one.2 told).0 shows) one.1
