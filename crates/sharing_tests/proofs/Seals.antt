-- A seal adds a file.
use Rattle.std.proofs.Common.{◌≡◌, ◌∙◌, ap, ℕ, ◌+◌, ◌<◌, List, ◌++◌, length, arith}
use Rattle.std.proofs.lemmas.List.{length-append}
use Rattle.flat_image.specs.History.{History, committed}
use Rattle.flat_image.specs.Ports.{PortState}
use Rattle.flat_image.proofs.HistoryLaws.{seal-adds_file}
use Rattle.shared_image.specs.Commits.{Seals}

-- the epoch that a seal answers is that of a committed file
pub seals-epoch : (old new : PortState) (uuid : List ℕ) (epoch : ℕ) → Seals old new uuid epoch → epoch < length (committed old.base new.seen)
seals-epoch old new uuid epoch seals =
    let history : History = old.seen ++ seals.sealed.before in
    let adds = (seal-adds_file old.base history).seal old.number uuid seals.sealed.allowed in
    let one_more : length (committed old.base new.seen) ≡ length (committed old.base history) + 1 =
    ap (λ h. length (committed old.base h)) seals.sealed.seen ∙ ap length adds.2 ∙ length-append (committed old.base history) _ in
    let is = seals.epoch_is in
    omega (arith, is, one_more)
