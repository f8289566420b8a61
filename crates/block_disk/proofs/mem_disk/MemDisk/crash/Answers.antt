use Rattle.std.proofs.Common.{◌≡◌, ℕ, rules, sym, subst}
use Rattle.std.proofs.lemmas.Grind.{common_steps}
use Rattle.block_disk.specs.History.{left_by, seen_after, LeftAfter}
use Rattle.block_disk.specs.HistoryLaws.{left_stays}
use Rattle.block_disk.specs.HistoryState.{start_of, past_of}
use Rattle.block_disk.proofs.mem_disk.MemDisk.crash.Goals as goal

pub returns-clause-image : goal.returns-clause-image
returns-clause-image c =
    let start = start_of c.args.self.history in
    let past = past_of c.args.self.history in
    let left : (f : ℕ) → seen_after (start_of c.with.result.history) (past_of c.with.result.history) f ≡ left_by c.args.choice start past f = search (rules, common_steps) in
    λ f. subst (LeftAfter start past f) (sym (left f)) (left_stays c.args.choice start past f)
