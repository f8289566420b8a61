use Rattle.std.proofs.Common.{◌≡◌, ℕ, ◌+◌, ◌-◌, ◌*◌, ◌<◌, take, min, IsTrue, subst, sym, ap, arith}
use Rattle.block_disk.specs.Changes.{piece}
use Rattle.block_disk.specs.Claims.{FileRun}
use Rattle.layer_commit.specs.Fitting.{SealFits, IsWritten}
use Rattle.layer_commit.specs.View.{SealView, view_of, file_by, length_of, pieces_of}
use Rattle.layer_commit.proofs.FileLaws.{length-sealed}
use Rattle.layer_commit.proofs.SealLaws.{all_front, front_written, ready, run_read, run_write, fits_run, fits_failed, fits_written}
use Rattle.layer_commit.proofs.parts.SealParts.copy_some.Goals as goal

pub returns-in_err-fill_buffer-clause-any_moment : goal.returns-in_err-fill_buffer-clause-any_moment
returns-in_err-fill_buffer-clause-any_moment g c =
    run_read c.args.self.now.to_file (g.D.Disk.state c.args.disk.now) (g.D.Disk.state c.cut_first.new.disk) (g.D.Disk.state c.fill_buffer.new.disk)
    c.cut_first.ensures.run c.fill_buffer.ensures.quiet (λ files left. g.met.D.Disk.at_now c.cut_first.new.disk files left)

pub returns-in_err-write_piece-clause-any_moment : goal.returns-in_err-write_piece-clause-any_moment
returns-in_err-write_piece-clause-any_moment g c =
    let v = view_of c.args.self.now in
    let w = view_of c.fill_buffer.new.self in
    let steps = subst (λ (u : SealView). FileRun u.to_file (g.D.Disk.state c.args.disk.now) (g.D.Disk.state c.fill_buffer.new.disk) (λ x. Unit {0})) (sym c.fill_buffer.ensures.same)
    (run_read v.to_file (g.D.Disk.state c.args.disk.now) (g.D.Disk.state c.cut_first.new.disk) (g.D.Disk.state c.fill_buffer.new.disk)
    c.cut_first.ensures.run c.fill_buffer.ensures.quiet (λ files left. g.met.D.Disk.at_now c.cut_first.new.disk files left)) in
    subst (λ (u : SealView). FileRun u.to_file (g.D.Disk.state c.args.disk.now) (g.D.Disk.state c.write_piece.new.disk) (λ x. Unit {0})) c.fill_buffer.ensures.same
    (run_write w.to_file (131072 * w.done) (min 131072 (length_of w.head - 131072 * w.done)) (g.D.Disk.state c.args.disk.now) (g.D.Disk.state c.fill_buffer.new.disk) (g.D.Disk.state c.write_piece.new.disk)
    steps c.write_piece.ensures.steps)

pub returns-clause-any_moment : goal.returns-clause-any_moment
returns-clause-any_moment g c =
    let v = view_of c.args.self.now in
    let w = view_of c.fill_buffer.new.self in
    let steps = subst (λ (u : SealView). FileRun u.to_file (g.D.Disk.state c.args.disk.now) (g.D.Disk.state c.fill_buffer.new.disk) (λ x. Unit {0})) (sym c.fill_buffer.ensures.same)
    (run_read v.to_file (g.D.Disk.state c.args.disk.now) (g.D.Disk.state c.cut_first.new.disk) (g.D.Disk.state c.fill_buffer.new.disk)
    c.cut_first.ensures.run c.fill_buffer.ensures.quiet (λ files left. g.met.D.Disk.at_now c.cut_first.new.disk files left)) in
    subst (λ (u : SealView). FileRun u.to_file (g.D.Disk.state c.args.disk.now) (g.D.Disk.state c.write_piece.new.disk) (λ x. Unit {0})) c.fill_buffer.ensures.same
    (run_write w.to_file (131072 * w.done) (min 131072 (length_of w.head - 131072 * w.done)) (g.D.Disk.state c.args.disk.now) (g.D.Disk.state c.fill_buffer.new.disk) (g.D.Disk.state c.write_piece.new.disk)
    steps c.write_piece.ensures.steps)

pub returns-in_err-write_piece-clause-fits : goal.returns-in_err-write_piece-clause-fits
returns-in_err-write_piece-clause-fits g c = λ stored fits.
    let v = view_of c.args.self.now in
    let w = view_of c.fill_buffer.new.self in
    let old = g.D.Disk.state c.args.disk.now in
    let cut = g.D.Disk.state c.cut_first.new.disk in
    let now = g.D.Disk.state c.fill_buffer.new.disk in
    let new = g.D.Disk.state c.write_piece.new.disk in
    let same : w ≡ v = c.fill_buffer.ensures.same in
    let run = run_write w.to_file (131072 * w.done) (min 131072 (length_of w.head - 131072 * w.done)) old now new
    (subst (λ (u : SealView). FileRun u.to_file old now (λ x. Unit {0})) (sym same)
    (run_read v.to_file old cut now c.cut_first.ensures.run c.fill_buffer.ensures.quiet (λ files left. g.met.D.Disk.at_now c.cut_first.new.disk files left)))
    c.write_piece.ensures.steps in
    let before = ready g.D.Disk.tells old cut now v stored fits c.in_ok-cut_first.ensures.cut
    (λ some. ap (λ d. (g.D.Disk.state d).seen v.to_file) (c.cut_first.ensures.same some)) c.fill_buffer.ensures.quiet in
    let fits_w = subst (λ (u : SealView). SealFits g.D.Disk.tells old u stored) (sym same) fits in
    let more : w.done < pieces_of w = subst (λ (u : SealView). u.done < pieces_of u) (sym same) (omega (arith, c.if-self-total.false, c.total.ensures)) in
    fits_failed g.D.Disk.tells old now new w stored (min 131072 (length_of w.head - 131072 * w.done)) fits_w (omega arith) more (length-sealed w stored fits_w.sound fits_w.within)
    (subst (λ (u : SealView). IsTrue g.D.Disk.tells → IsWritten (131072 * u.done) (file_by u stored) (now.seen u.to_file)) (sym same) before) run c.write_piece.ensures.steps

pub returns-clause-fits : goal.returns-clause-fits
returns-clause-fits g c = λ stored fits.
    let v = view_of c.args.self.now in
    let w = view_of c.fill_buffer.new.self in
    let old = g.D.Disk.state c.args.disk.now in
    let cut = g.D.Disk.state c.cut_first.new.disk in
    let now = g.D.Disk.state c.fill_buffer.new.disk in
    let new = g.D.Disk.state c.write_piece.new.disk in
    let same : w ≡ v = c.fill_buffer.ensures.same in
    let run = run_write w.to_file (131072 * w.done) (min 131072 (length_of w.head - 131072 * w.done)) old now new
    (subst (λ (u : SealView). FileRun u.to_file old now (λ x. Unit {0})) (sym same)
    (run_read v.to_file old cut now c.cut_first.ensures.run c.fill_buffer.ensures.quiet (λ files left. g.met.D.Disk.at_now c.cut_first.new.disk files left)))
    c.write_piece.ensures.steps in
    let before = ready g.D.Disk.tells old cut now v stored fits c.in_ok-cut_first.ensures.cut
    (λ some. ap (λ d. (g.D.Disk.state d).seen v.to_file) (c.cut_first.ensures.same some)) c.fill_buffer.ensures.quiet in
    let fits_w = subst (λ (u : SealView). SealFits g.D.Disk.tells old u stored) (sym same) fits in
    let more : w.done < pieces_of w = subst (λ (u : SealView). u.done < pieces_of u) (sym same) (omega (arith, c.if-self-total.false, c.total.ensures)) in
    fits_written g.D.Disk.tells old now new w stored (take (min 131072 (length_of w.head - 131072 * w.done)) c.fill_buffer.new.self.buffer.items)
    (min 131072 (length_of w.head - 131072 * w.done)) fits_w (omega arith) more (length-sealed w stored fits_w.sound fits_w.within)
    (subst (λ (u : SealView). IsTrue g.D.Disk.tells → IsWritten (131072 * u.done) (file_by u stored) (now.seen u.to_file)) (sym same) before) run
    (λ told. subst (λ (u : SealView). take (min 131072 (length_of u.head - 131072 * u.done)) c.fill_buffer.new.self.buffer.items ≡ piece (131072 * u.done) (min 131072 (length_of u.head - 131072 * u.done)) (file_by u stored)) (sym same)
    (c.in_ok-fill_buffer.ensures.filled told stored
    (fits_run g.D.Disk.tells old cut v stored fits c.cut_first.ensures.run
    (λ t some. subst (IsWritten (131072 * v.done) (file_by v stored)) (sym (ap (λ d. (g.D.Disk.state d).seen v.to_file) (c.cut_first.ensures.same some))) (fits.written t some)))))
    c.in_ok-write_piece.ensures.written

pub returns-then-self-total-clause-front : goal.returns-then-self-total-clause-front
returns-then-self-total-clause-front g c = λ stored fits told.
    let v = view_of c.args.self.now in
    all_front g.D.Disk.tells (g.D.Disk.state c.args.disk.now) v stored fits (omega (arith, fits.sound.done, c.if-self-total.true, c.total.ensures)) (length-sealed v stored fits.sound fits.within) told

pub returns-clause-front : goal.returns-clause-front
returns-clause-front g c = λ stored fits told.
    let v = view_of c.args.self.now in
    let w = view_of c.fill_buffer.new.self in
    let old = g.D.Disk.state c.args.disk.now in
    let cut = g.D.Disk.state c.cut_first.new.disk in
    let now = g.D.Disk.state c.fill_buffer.new.disk in
    let new = g.D.Disk.state c.write_piece.new.disk in
    let same : w ≡ v = c.fill_buffer.ensures.same in
    let n : ℕ = min 131072 (length_of w.head - 131072 * w.done) in
    let before = ready g.D.Disk.tells old cut now v stored fits c.in_ok-cut_first.ensures.cut
    (λ some. ap (λ d. (g.D.Disk.state d).seen v.to_file) (c.cut_first.ensures.same some)) c.fill_buffer.ensures.quiet in
    let fits_w = subst (λ (u : SealView). SealFits g.D.Disk.tells old u stored) (sym same) fits in
    let more : w.done < pieces_of w = subst (λ (u : SealView). u.done < pieces_of u) (sym same) (omega (arith, c.if-self-total.false, c.total.ensures)) in
    let filled = c.in_ok-fill_buffer.ensures.filled told stored
    (fits_run g.D.Disk.tells old cut v stored fits c.cut_first.ensures.run
    (λ t some. subst (IsWritten (131072 * v.done) (file_by v stored)) (sym (ap (λ d. (g.D.Disk.state d).seen v.to_file) (c.cut_first.ensures.same some))) (fits.written t some))) in
    subst (λ (u : SealView). new.seen u.to_file ≡ take (131072 * (w.done + 1)) (file_by u stored)) same
    (front_written g.D.Disk.tells now new w stored (take n c.fill_buffer.new.self.buffer.items) n (omega arith) more (length-sealed w stored fits_w.sound fits_w.within)
    (subst (λ (u : SealView). IsTrue g.D.Disk.tells → IsWritten (131072 * u.done) (file_by u stored) (now.seen u.to_file)) (sym same) before)
    (λ t. subst (λ (u : SealView). take (min 131072 (length_of u.head - 131072 * u.done)) c.fill_buffer.new.self.buffer.items ≡ piece (131072 * u.done) (min 131072 (length_of u.head - 131072 * u.done)) (file_by u stored)) (sym same) filled)
    c.in_ok-write_piece.ensures.written told)
