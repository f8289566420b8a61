use Rattle.std.proofs.Common.{refl, inl, inr}
use Rattle.top_writer.specs.Files.{data_file, index_file, mark_file}
use Rattle.top_writer.proofs.MakeGoes.{any_wide, any_then, mark_made}
use Rattle.top_writer.proofs.making.make_files.Goals as goal

pub returns-in_err-make_file-clause-run : goal.returns-in_err-make_file-clause-run
returns-in_err-make_file-clause-run g c =
    any_wide c.args.epoch (data_file c.args.epoch) c.data_number.result (g.D.Disk.state c.args.disk.now) (g.D.Disk.state c.make_file.new.disk) c.data_number.ensures (inl refl) c.make_file.ensures.run

pub returns-in_err-make_file-2-clause-run : goal.returns-in_err-make_file-2-clause-run
returns-in_err-make_file-2-clause-run g c =
    any_then c.args.epoch (index_file c.args.epoch) c.index_number.result (g.D.Disk.state c.args.disk.now) (g.D.Disk.state c.make_file.new.disk) (g.D.Disk.state c.make_file-2.new.disk)
    c.index_number.ensures (inr (inl refl))
    (any_wide c.args.epoch (data_file c.args.epoch) c.data_number.result (g.D.Disk.state c.args.disk.now) (g.D.Disk.state c.make_file.new.disk) c.data_number.ensures (inl refl) c.make_file.ensures.run)
    c.make_file-2.ensures.run

pub returns-in_err-mark-clause-run : goal.returns-in_err-mark-clause-run
returns-in_err-mark-clause-run g c =
    any_then c.args.epoch (mark_file c.args.epoch) c.mark_number.result (g.D.Disk.state c.args.disk.now) (g.D.Disk.state c.make_file-2.new.disk) (g.D.Disk.state c.format.new.disk)
    c.mark_number.ensures (inr (inr refl))
    (any_then c.args.epoch (index_file c.args.epoch) c.index_number.result (g.D.Disk.state c.args.disk.now) (g.D.Disk.state c.make_file.new.disk) (g.D.Disk.state c.make_file-2.new.disk)
    c.index_number.ensures (inr (inl refl))
    (any_wide c.args.epoch (data_file c.args.epoch) c.data_number.result (g.D.Disk.state c.args.disk.now) (g.D.Disk.state c.make_file.new.disk) c.data_number.ensures (inl refl) c.make_file.ensures.run)
    c.make_file-2.ensures.run)
    c.format.ensures.any_moment

pub returns-clause-mark : goal.returns-clause-mark
returns-clause-mark g c =
    mark_made (g.D.Disk.state c.format.new.disk) (mark_file c.args.epoch) c.mark_number.result c.in_ok-mark.mark c.body_of.result c.mark_number.ensures
    c.in_ok-mark.ensures.mark c.in_ok-mark.ensures.bodies c.in_ok-mark.ensures.kept c.body_of.ensures.rows c.body_of.ensures.sectors

pub returns-clause-run : goal.returns-clause-run
returns-clause-run g c =
    any_then c.args.epoch (mark_file c.args.epoch) c.mark_number.result (g.D.Disk.state c.args.disk.now) (g.D.Disk.state c.make_file-2.new.disk) (g.D.Disk.state c.format.new.disk)
    c.mark_number.ensures (inr (inr refl))
    (any_then c.args.epoch (index_file c.args.epoch) c.index_number.result (g.D.Disk.state c.args.disk.now) (g.D.Disk.state c.make_file.new.disk) (g.D.Disk.state c.make_file-2.new.disk)
    c.index_number.ensures (inr (inl refl))
    (any_wide c.args.epoch (data_file c.args.epoch) c.data_number.result (g.D.Disk.state c.args.disk.now) (g.D.Disk.state c.make_file.new.disk) c.data_number.ensures (inl refl) c.make_file.ensures.run)
    c.make_file-2.ensures.run)
    c.format.ensures.any_moment
