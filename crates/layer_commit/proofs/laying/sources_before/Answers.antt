use Rattle.std.proofs.Common.{◌≡◌, ℕ, ◌+◌, ◌-◌, ◌<◌, ◌≤◌, List, length, take, leb, leb-true, ap, arith, rules, inl, inr, get_or}
use Rattle.std.proofs.lemmas.List.Sorted.{IsPartitionPoint-from_clause, IsPartitionedBy-leb}
use Rattle.std.proofs.lemmas.Bool.Decides.{leb_tells}
use Rattle.layer_commit.specs.declared.source.Source.{Source}
use Rattle.layer_commit.specs.Sources.{counted}
use Rattle.layer_commit.proofs.SourceLaws.{end_in, ends_rise, source_at, counted_more, counted_take}
use Rattle.layer_commit.proofs.laying.sources_before.Goals as goal

pub returns-clause-before : goal.returns-clause-before
returns-clause-before c =
    let sources : List Source = c.args.sources.now in
    let n : ℕ = c.partition_point.result in
    let none : Source = record { from = 0; to = 0; count = 0 } in
    let parted = IsPartitionedBy-leb end_in sources c.args.from (λ i j d le below. ends_rise sources i j d c.requires.sources le below) in
    let point = IsPartitionPoint-from_clause (λ s. leb (end_in s) c.args.from) sources n c.partition_point.ensures.partitioned parted (λ a r f k. search rules) in
    elim (leb_tells 1 n) [
      | inr empty ↦ inl (omega (arith, empty.1))
      | inl some ↦
          let last : n - 1 < length sources = omega (arith, some.1, c.partition_point.ensures.bound) in
          let at : end_in (get_or sources (n - 1) none) ≤ c.args.from = leb-true _ _ (point.0 (n - 1) none (omega arith) (omega (arith, some.1))) in
          let is = source_at 8 sources (n - 1) none c.requires.sources last in
          let more = counted_more sources (n - 1) none last in
          let up : counted (take (n - 1 + 1) sources) ≡ counted (take n sources) = ap (λ (k : ℕ). counted (take k sources)) (let e : n - 1 + 1 ≡ n = omega (arith, some.1) in e) in
          inr (omega (arith, at, is.place, more, up, c.requires.few, counted_take sources n))
    ]
