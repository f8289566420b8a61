use Rattle.std.proofs.Common.{◌≡◌, ℕ, ◌+◌, length, refl, sym, ap, arith}
use Rattle.top_writer.specs.Stands.{with_write, unchanged, as_before}
use Rattle.top_writer.specs.View.{TopView, view_of}
use Rattle.top_writer.proofs.Exits.{on_err}
use Rattle.top_writer.proofs.Going.{goes_same}
use Rattle.top_writer.proofs.WriteGoes.{goes_failed, goes_written, goes_nothing, goes_from, no_bytes, fitted_goes, fitted_same}
use Rattle.top_writer.proofs.top.Top.write.Goals as goal

pub returns-in_err-check_room-clause-err : goal.returns-in_err-check_room-clause-err
returns-in_err-check_room-clause-err g c =
    on_err c.from_residual.result
    (goes_same g.D.Disk.tells (g.D.Disk.state c.args.disk.now) c.args.self.now c.args.self.now refl (λ files left. g.met.D.Disk.now_at c.args.disk.now files left))

pub returns-then-extent-eq0-clause-ok : goal.returns-then-extent-eq0-clause-ok
returns-then-extent-eq0-clause-ok g c =
    goes_nothing g.D.Disk.tells (g.D.Disk.state c.args.disk.now) c.args.self.now c.args.self.now c.args.extent.at c.args.bytes.now
    (no_bytes c.args.bytes.now c.args.extent.count c.requires.size c.if-extent-eq0.true)
    (goes_same g.D.Disk.tells (g.D.Disk.state c.args.disk.now) c.args.self.now c.args.self.now refl (λ files left. g.met.D.Disk.now_at c.args.disk.now files left))

pub returns-in_err-reserve-clause-err : goal.returns-in_err-reserve-clause-err
returns-in_err-reserve-clause-err g c =
    on_err c.from_residual-in_err-reserve.result
    (goes_same g.D.Disk.tells (g.D.Disk.state c.args.disk.now) c.args.self.now c.reserve.new.self c.reserve.ensures.same (λ files left. g.met.D.Disk.now_at c.args.disk.now files left))

pub returns-in_err-append-clause-err : goal.returns-in_err-append-clause-err
returns-in_err-append-clause-err g c =
    on_err c.from_residual-in_err-append.result
    (goes_from g.D.Disk.tells (g.D.Disk.state c.args.disk.now) (g.D.Disk.state c.append.new.disk) c.args.self.now c.reserve.new.self c.reserve.new.self unchanged as_before c.reserve.ensures.same
    (goes_failed g.D.Disk.tells (g.D.Disk.state c.args.disk.now) (g.D.Disk.state c.append.new.disk) c.reserve.new.self c.reserve.new.self (length c.args.bytes.now) refl
    (λ files left. g.met.D.Disk.now_at c.args.disk.now files left) c.append.ensures.steps))

pub returns-clause-ok : goal.returns-clause-ok
returns-clause-ok g c =
    let mid = c.reserve.new.self in
    let same = c.reserve.ensures.same in
    let room = c.in_ok-check_room.ensures.room in
    let mid_rows : c.args.self.now.rows ≡ mid.rows = sym (ap (λ (v : TopView). v.rows) same) in
    let mid_filled : c.args.self.now.filled ≡ mid.filled = sym (ap (λ (v : TopView). v.filled) same) in
    let mid_sectors : c.args.self.now.sectors ≡ mid.sectors = sym (ap (λ (v : TopView). v.sectors) same) in
    goes_from g.D.Disk.tells (g.D.Disk.state c.args.disk.now) (g.D.Disk.state c.append.new.disk) c.args.self.now mid
    (record c.note.new.self { filled = c.note.new.self.filled + c.args.extent.count })
    (with_write c.args.extent.at c.args.bytes.now) as_before same
    (goes_written g.D.Disk.tells (g.D.Disk.state c.args.disk.now) (g.D.Disk.state c.append.new.disk) mid
    (record c.note.new.self { filled = c.note.new.self.filled + c.args.extent.count }) (view_of c.note.new.self) c.args.extent c.args.bytes.now
    c.requires.size (omega (arith, mid_sectors, c.requires.within)) c.note.ensures
    (ap (λ (k : ℕ). record (view_of c.note.new.self) { filled = k + c.args.extent.count }) c.note.ensures.filled)
    (record { rows_fit = omega (arith, room.rows_fit, mid_rows, c.rows_needed-rows.ensures); sectors_fit = omega (arith, room.sectors_fit, mid_filled) })
    c.append.ensures.steps c.in_ok-append.ensures.written
    (λ files left. g.met.D.Disk.now_at c.args.disk.now files left))

pub returns-in_err-check_room-clause-fitted : goal.returns-in_err-check_room-clause-fitted
returns-in_err-check_room-clause-fitted g c = c.requires.fits

pub returns-then-extent-eq0-clause-fitted : goal.returns-then-extent-eq0-clause-fitted
returns-then-extent-eq0-clause-fitted g c = c.requires.fits

pub returns-in_err-reserve-clause-fitted : goal.returns-in_err-reserve-clause-fitted
returns-in_err-reserve-clause-fitted g c =
    fitted_same g.D.Disk.tells (g.D.Disk.state c.args.disk.now) c.args.self.now c.reserve.new.self c.reserve.ensures.same c.requires.fits

pub returns-in_err-append-clause-fitted : goal.returns-in_err-append-clause-fitted
returns-in_err-append-clause-fitted g c =
    fitted_goes g.D.Disk.tells (g.D.Disk.state c.args.disk.now) (g.D.Disk.state c.append.new.disk) c.reserve.new.self c.reserve.new.self unchanged as_before
    (fitted_same g.D.Disk.tells (g.D.Disk.state c.args.disk.now) c.args.self.now c.reserve.new.self c.reserve.ensures.same c.requires.fits)
    (goes_failed g.D.Disk.tells (g.D.Disk.state c.args.disk.now) (g.D.Disk.state c.append.new.disk) c.reserve.new.self c.reserve.new.self (length c.args.bytes.now) refl
    (λ files left. g.met.D.Disk.now_at c.args.disk.now files left) c.append.ensures.steps)

pub returns-clause-fitted : goal.returns-clause-fitted
returns-clause-fitted g c =
    let mid = c.reserve.new.self in
    let same = c.reserve.ensures.same in
    let room = c.in_ok-check_room.ensures.room in
    let mid_rows : c.args.self.now.rows ≡ mid.rows = sym (ap (λ (v : TopView). v.rows) same) in
    let mid_filled : c.args.self.now.filled ≡ mid.filled = sym (ap (λ (v : TopView). v.filled) same) in
    let mid_sectors : c.args.self.now.sectors ≡ mid.sectors = sym (ap (λ (v : TopView). v.sectors) same) in
    let goes = goes_from g.D.Disk.tells (g.D.Disk.state c.args.disk.now) (g.D.Disk.state c.append.new.disk) c.args.self.now mid
    (record c.note.new.self { filled = c.note.new.self.filled + c.args.extent.count })
    (with_write c.args.extent.at c.args.bytes.now) as_before same
    (goes_written g.D.Disk.tells (g.D.Disk.state c.args.disk.now) (g.D.Disk.state c.append.new.disk) mid
    (record c.note.new.self { filled = c.note.new.self.filled + c.args.extent.count }) (view_of c.note.new.self) c.args.extent c.args.bytes.now
    c.requires.size (omega (arith, mid_sectors, c.requires.within)) c.note.ensures
    (ap (λ (k : ℕ). record (view_of c.note.new.self) { filled = k + c.args.extent.count }) c.note.ensures.filled)
    (record { rows_fit = omega (arith, room.rows_fit, mid_rows, c.rows_needed-rows.ensures); sectors_fit = omega (arith, room.sectors_fit, mid_filled) })
    c.append.ensures.steps c.in_ok-append.ensures.written
    (λ files left. g.met.D.Disk.now_at c.args.disk.now files left)) in
    fitted_goes g.D.Disk.tells (g.D.Disk.state c.args.disk.now) (g.D.Disk.state c.append.new.disk) c.args.self.now
    (record c.note.new.self { filled = c.note.new.self.filled + c.args.extent.count }) (with_write c.args.extent.at c.args.bytes.now) as_before c.requires.fits goes
