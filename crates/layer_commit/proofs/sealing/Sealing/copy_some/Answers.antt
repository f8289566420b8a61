use Rattle.std.proofs.Common.{◌≡◌, ◌*◌, ◌↔◌, List, ℕ, take, IsTrue, subst}
use Rattle.std.specs.Prelude.{IfOk, OnOk}
use Rattle.layer_commit.specs.Fitting.{SealFits}
use Rattle.layer_commit.specs.View.{SealView, file_by, pieces_of}
use Rattle.layer_commit.proofs.sealing.Sealing.copy_some.Goals as goal

pub returns-clause-all : goal.returns-clause-all
returns-clause-all g c =
    subst (λ (v : SealView). IfOk c.copy_some.result (λ whole. IsTrue whole ↔ (c.copy_some.new.self.done ≡ pieces_of v))) c.self.view_is c.copy_some.ensures.all

pub returns-clause-front : goal.returns-clause-front
returns-clause-front g c =
    subst (λ (v : SealView). OnOk c.copy_some.result ((stored : List ℕ) → SealFits g.D.Disk.tells (g.D.Disk.state c.args.disk.now) v stored → IsTrue g.D.Disk.tells
    → (g.D.Disk.state c.copy_some.new.disk).seen v.to_file ≡ take (131072 * c.copy_some.new.self.done) (file_by v stored))) c.self.view_is c.copy_some.ensures.front
