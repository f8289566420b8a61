use Rattle.std.proofs.Common.{◌≡◌, List, [], ◌∷◌, ◌++◌, sym, ap, subst, ◌∙◌, rules}
use Rattle.layer_commit.specs.declared.source.Source.{Source}
use Rattle.layer_commit.specs.Sources.{Extends}
use Rattle.layer_commit.proofs.ExtendLaws.{extends-new}
use Rattle.layer_commit.proofs.gathering.push_source.Goals as goal

pub returns-in_ok-push : goal.returns-in_ok-push
returns-in_ok-push c =
    let old : List Source = c.args.sources.now.items in
    let same : c.extend_last.new.sources.items ≡ old = search rules in
    let pushed : c.push.new.self.items ≡ c.extend_last.new.sources.items ++ c.args.source.now ∷ [] = search rules in
    subst (Extends c.args.source.now old) (sym (pushed ∙ ap (λ (l : List Source). l ++ c.args.source.now ∷ []) same)) (extends-new old c.args.source.now c.requires.behind)
