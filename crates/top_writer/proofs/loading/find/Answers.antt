use Rattle.std.proofs.Common.{◌≡◌, ℕ, List, IsTrue, length, sym, ap, subst, ◌∙◌, rules}
use Rattle.block_disk.specs.Claims.{Quiet}
use Rattle.block_disk.specs.DiskState.{DiskState}
use Rattle.gate_mark.specs.Mark.{sequence_in, body_in}
use Rattle.gate_mark.specs.MarkFile.{Shows}
use Rattle.top_writer.specs.declared.fault.TopFault.{TopFault}
use Rattle.top_writer.specs.declared.fault.TopFault.TheVariants.{NoTop}
use Rattle.top_writer.specs.Files.{Stored, stored_in, data_file, index_file, mark_file, asked_of}
use Rattle.top_writer.specs.Loading.{IsRefused, IsFront}
use Rattle.top_writer.proofs.ErrLaws.{if_err_is}
use Rattle.top_writer.proofs.LoadLaws.{fronts_are, has_mark, found_is}
use Rattle.top_writer.proofs.QuietLaws.{quiet_joined, quiet_three, quiet_four, quiet_seen}
use Rattle.top_writer.proofs.loading.find.Goals as goal

pub returns-in_err-bytes-clause-quiet : goal.returns-in_err-bytes-clause-quiet
returns-in_err-bytes-clause-quiet g c =
    let state = g.D.Disk.state in
    quiet_joined (state c.args.disk.now) (state c.sync_files.new.disk) (state c.read_front.new.disk) c.sync_files.ensures.quiet c.read_front.ensures.quiet

pub returns-in_err-index-clause-quiet : goal.returns-in_err-index-clause-quiet
returns-in_err-index-clause-quiet g c =
    let state = g.D.Disk.state in
    quiet_three (state c.args.disk.now) (state c.sync_files.new.disk) (state c.read_front.new.disk) (state c.read_front-2.new.disk)
    c.sync_files.ensures.quiet c.read_front.ensures.quiet c.read_front-2.ensures.quiet

pub returns-in_err-check_fronts-clause-quiet : goal.returns-in_err-check_fronts-clause-quiet
returns-in_err-check_fronts-clause-quiet g c =
    let state = g.D.Disk.state in
    quiet_three (state c.args.disk.now) (state c.sync_files.new.disk) (state c.read_front.new.disk) (state c.read_front-2.new.disk)
    c.sync_files.ensures.quiet c.read_front.ensures.quiet c.read_front-2.ensures.quiet

pub returns-in_err-mark-clause-quiet : goal.returns-in_err-mark-clause-quiet
returns-in_err-mark-clause-quiet g c =
    let state = g.D.Disk.state in
    quiet_four (state c.args.disk.now) (state c.sync_files.new.disk) (state c.read_front.new.disk) (state c.read_front-2.new.disk) (state c.load_mark.new.disk)
    c.sync_files.ensures.quiet c.read_front.ensures.quiet c.read_front-2.ensures.quiet c.load_mark.ensures.quiet

pub returns-in_err-rows-clause-quiet : goal.returns-in_err-rows-clause-quiet
returns-in_err-rows-clause-quiet g c =
    let state = g.D.Disk.state in
    quiet_four (state c.args.disk.now) (state c.sync_files.new.disk) (state c.read_front.new.disk) (state c.read_front-2.new.disk) (state c.load_mark.new.disk)
    c.sync_files.ensures.quiet c.read_front.ensures.quiet c.read_front-2.ensures.quiet c.load_mark.ensures.quiet

pub returns-clause-quiet : goal.returns-clause-quiet
returns-clause-quiet g c =
    let state = g.D.Disk.state in
    quiet_four (state c.args.disk.now) (state c.sync_files.new.disk) (state c.read_front.new.disk) (state c.read_front-2.new.disk) (state c.load_mark.new.disk)
    c.sync_files.ensures.quiet c.read_front.ensures.quiet c.read_front-2.ensures.quiet c.load_mark.ensures.quiet

-- a first block that was read after calls that change nothing
front_later : (old mid : DiskState) (number file len : ℕ) (block : List ℕ) → Quiet old mid → number ≡ file → IsFront (mid.seen number) len block → IsFront (old.seen file) len block
front_later old mid number file len block quiet same front =
    subst (λ (bytes : List ℕ). IsFront bytes len block) (ap mid.seen same ∙ quiet_seen old mid quiet file) front

pub returns-in_err-check_fronts-clause-reason : goal.returns-in_err-check_fronts-clause-reason
returns-in_err-check_fronts-clause-reason g c =
    let state = g.D.Disk.state in
    let old : DiskState = state c.args.disk.now in let one : DiskState = state c.sync_files.new.disk in let two : DiskState = state c.read_front.new.disk in
    let t : Stored = stored_in c.args.epoch old.seen in
    let reason = c.in_err-check_fronts.field-0.0 in
    if_err_is c.from_residual-in_err-check_fronts.result (NoTop reason) (λ (fault : TopFault). IsTrue g.D.Disk.tells → IsRefused c.args.sectors (asked_of c.args.exact c.args.parent) t fault)
    c.from_residual-in_err-check_fronts.ensures.1
    (λ told.
    let first = front_later old one c.data_number.result (data_file c.args.epoch) c.in_ok-bytes.bytes.len c.in_ok-bytes.bytes.block c.sync_files.ensures.quiet c.data_number.ensures (c.in_ok-bytes.ensures.front told) in
    let second = front_later old two c.index_number.result (index_file c.args.epoch) c.in_ok-index.index.len c.in_ok-index.index.block
    (quiet_joined old one two c.sync_files.ensures.quiet c.read_front.ensures.quiet) c.index_number.ensures (c.in_ok-index.ensures.front told) in
    c.in_err-check_fronts.ensures.reason t (fronts_are t c.in_ok-bytes.bytes.len c.in_ok-index.index.len c.in_ok-bytes.bytes.block c.in_ok-index.index.block first second))

pub returns-in_err-mark-clause-reason : goal.returns-in_err-mark-clause-reason
returns-in_err-mark-clause-reason g c =
    let state = g.D.Disk.state in
    let old : DiskState = state c.args.disk.now in let one : DiskState = state c.sync_files.new.disk in let two : DiskState = state c.read_front.new.disk in let three : DiskState = state c.read_front-2.new.disk in
    let t : Stored = stored_in c.args.epoch old.seen in
    let early : Quiet old two = quiet_joined old one two c.sync_files.ensures.quiet c.read_front.ensures.quiet in
    let before : Quiet old three = quiet_joined old two three early c.read_front-2.ensures.quiet in
    if_err_is c.from_residual-in_err-mark.result c.in_err-mark.field-0.0 (λ (fault : TopFault). IsTrue g.D.Disk.tells → IsRefused c.args.sectors (asked_of c.args.exact c.args.parent) t fault)
    c.from_residual-in_err-mark.ensures.1
    (λ told.
    let first = front_later old one c.data_number.result (data_file c.args.epoch) c.in_ok-bytes.bytes.len c.in_ok-bytes.bytes.block c.sync_files.ensures.quiet c.data_number.ensures (c.in_ok-bytes.ensures.front told) in
    let second = front_later old two c.index_number.result (index_file c.args.epoch) c.in_ok-index.index.len c.in_ok-index.index.block early c.index_number.ensures (c.in_ok-index.ensures.front told) in
    let has = c.in_ok-check_fronts.ensures.ok t (fronts_are t c.in_ok-bytes.bytes.len c.in_ok-index.index.len c.in_ok-bytes.bytes.block c.in_ok-index.index.block first second) in
    c.in_err-mark.ensures.reason told c.args.sectors (asked_of c.args.exact c.args.parent) t has (sym (quiet_seen old three before (mark_file c.args.epoch))))

pub returns-in_err-rows-clause-reason : goal.returns-in_err-rows-clause-reason
returns-in_err-rows-clause-reason g c =
    let state = g.D.Disk.state in
    let old : DiskState = state c.args.disk.now in let one : DiskState = state c.sync_files.new.disk in let two : DiskState = state c.read_front.new.disk in let three : DiskState = state c.read_front-2.new.disk in
    let t : Stored = stored_in c.args.epoch old.seen in
    let early : Quiet old two = quiet_joined old one two c.sync_files.ensures.quiet c.read_front.ensures.quiet in
    let before : Quiet old three = quiet_joined old two three early c.read_front-2.ensures.quiet in
    let mark = c.in_ok-mark.mark in
    if_err_is c.from_residual-in_err-rows.result (NoTop c.in_err-rows.field-0.0) (λ (fault : TopFault). IsTrue g.D.Disk.tells → IsRefused c.args.sectors (asked_of c.args.exact c.args.parent) t fault)
    c.from_residual-in_err-rows.ensures.1
    (λ told.
    let first = front_later old one c.data_number.result (data_file c.args.epoch) c.in_ok-bytes.bytes.len c.in_ok-bytes.bytes.block c.sync_files.ensures.quiet c.data_number.ensures (c.in_ok-bytes.ensures.front told) in
    let second = front_later old two c.index_number.result (index_file c.args.epoch) c.in_ok-index.index.len c.in_ok-index.index.block early c.index_number.ensures (c.in_ok-index.ensures.front told) in
    let has = c.in_ok-check_fronts.ensures.ok t (fronts_are t c.in_ok-bytes.bytes.len c.in_ok-index.index.len c.in_ok-bytes.bytes.block c.in_ok-index.index.block first second) in
    let shows : Shows (sequence_in mark) (body_in mark) t.mark =
    subst (Shows (sequence_in mark) (body_in mark)) (quiet_seen old three before (mark_file c.args.epoch)) (c.in_ok-mark.ensures.shows told) in
    c.in_err-rows.ensures.reason c.args.sectors (asked_of c.args.exact c.args.parent) t (has_mark c.args.sectors (asked_of c.args.exact c.args.parent) t mark has shows c.in_ok-mark.ensures.mark.1) second.len_is first.len_is)

pub returns-clause-found : goal.returns-clause-found
returns-clause-found g c =
    let state = g.D.Disk.state in
    let old : DiskState = state c.args.disk.now in let one : DiskState = state c.sync_files.new.disk in let two : DiskState = state c.read_front.new.disk in let three : DiskState = state c.read_front-2.new.disk in
    let four : DiskState = state c.load_mark.new.disk in
    let early : Quiet old two = quiet_joined old one two c.sync_files.ensures.quiet c.read_front.ensures.quiet in
    let before : Quiet old three = quiet_joined old two three early c.read_front-2.ensures.quiet in
    let since : Quiet one four = quiet_joined one three four (quiet_joined one two three c.read_front.ensures.quiet c.read_front-2.ensures.quiet) c.load_mark.ensures.quiet in
    let mark = c.in_ok-mark.mark in
    let bytes_size : length c.in_ok-bytes.bytes.block ≡ 4096 = search rules in
    let index_size : length c.in_ok-index.index.block ≡ 4096 = search rules in
    found_is g.D.Disk.tells old one four c.args.epoch c.args.sectors (asked_of c.args.exact c.args.parent) mark c.in_ok-rows.rows c.in_ok-rows.filled c.in_ok-bytes.bytes.len c.in_ok-index.index.len
    c.in_ok-bytes.bytes.block c.in_ok-index.index.block
    since c.in_ok-sync_files.ensures.bytes c.in_ok-sync_files.ensures.index bytes_size index_size
    (λ told. front_later old one c.data_number.result (data_file c.args.epoch) c.in_ok-bytes.bytes.len c.in_ok-bytes.bytes.block c.sync_files.ensures.quiet c.data_number.ensures (c.in_ok-bytes.ensures.front told))
    (λ told. front_later old two c.index_number.result (index_file c.args.epoch) c.in_ok-index.index.len c.in_ok-index.index.block early c.index_number.ensures (c.in_ok-index.ensures.front told))
    c.in_ok-check_fronts.ensures.ok c.in_ok-mark.ensures.mark
    (λ told. subst (Shows (sequence_in mark) (body_in mark)) (quiet_seen old three before (mark_file c.args.epoch)) (c.in_ok-mark.ensures.shows told))
    c.in_ok-mark.ensures.bodies c.in_ok-mark.ensures.kept c.in_ok-rows.ensures.counts c.in_ok-rows.ensures.index c.in_ok-rows.ensures.bytes
