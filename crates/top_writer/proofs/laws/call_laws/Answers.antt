use Rattle.top_writer.specs.Files.{TopFiles}
use Rattle.top_writer.specs.View.{epoch_of}
use Rattle.top_writer.proofs.Going.{goes_same, fits_spared}
use Rattle.top_writer.proofs.WriteGoes.{zero_goes}
use Rattle.top_writer.proofs.RunLaws.{shows_now, goes_on, goes_quiet}
use Rattle.top_writer.proofs.GrowLaws.{fits_grown}
use Rattle.top_writer.proofs.laws.call_laws.Goals as goal

pub returns : goal.returns
returns g c = record {
  zeroed = λ p q extent within zeroed. zero_goes g.D.Disk.tells (g.D.Disk.state c.args.old.now) p q extent within zeroed
      (λ files left. g.met.D.Disk.now_at c.args.old.now files left);
  grown = λ n sectors asked p q s may more grown fits.
      fits_grown g.D.Disk.tells (g.D.Disk.state c.args.old.now) n sectors asked p q s may more grown fits;
  refused = λ p q same. goes_same g.D.Disk.tells (g.D.Disk.state c.args.old.now) p q same (λ files left. g.met.D.Disk.now_at c.args.old.now files left);
  read = λ p quiet. goes_quiet g.D.Disk.tells (g.D.Disk.state c.args.old.now) (g.D.Disk.state c.args.new.now) p quiet;
  other = λ n asked p s may spares fits. fits_spared g.D.Disk.tells (g.D.Disk.state c.args.old.now) (g.D.Disk.state c.args.new.now) n asked p s may
      (λ f. ¬ TopFiles (epoch_of p) f) spares (λ f is none. none is) fits;
  now = λ n asked p s calls files fits leaves. shows_now g.D.Disk.tells (g.D.Disk.state c.args.old.now) n asked p s calls files fits leaves;
  next = λ n asked p q s calls call fits goes. goes_on g.D.Disk.tells (g.D.Disk.state c.args.old.now) (g.D.Disk.state c.args.new.now) n asked p q s calls call fits goes;
}
