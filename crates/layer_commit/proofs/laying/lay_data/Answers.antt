use Rattle.std.proofs.Common.{◌≡◌, ℕ, ◌+◌, ◌*◌, ◌^◌, ◌<◌, ◌≤◌, ◌⊎◌, List, length, take, drop, subst, sym, ap, refl, ◌∙◌, arith, true, false, inr, get_or}
use Rattle.std.proofs.lemmas.List.{get_or-drop, length-drop}
use Rattle.sector_extent.specs.Causes.{Charges}
use Rattle.sector_extent.specs.CauseLaws.{calm_ok}
use Rattle.block_disk.proofs.Moments.{run_started, run_joined}
use Rattle.block_disk.specs.Changes.{piece}
use Rattle.layer_commit.specs.Laying.{Lays}
use Rattle.layer_commit.specs.declared.source.Source.{Source}
use Rattle.layer_commit.specs.Sources.{IsSource, AreSources, copied, counted}
use Rattle.layer_commit.proofs.SourceLaws.{source_at, counted_more, counted_take, sources_early, sources_done, sources_next}
use Rattle.layer_commit.proofs.laying.lay_data.Goals as goal

-- no fault so far, and none is answered
calm_so_far : {S : Type 0} (count : S → ℕ) (old new : S) → count new ≡ count old → Charges count old new (false ≡ true)
calm_so_far count old new same = record {
  later = omega (arith, same);
  failed = λ is. absurd (cc);
  only = λ rose. absurd (omega (arith, same, rose));
}

abbrev none : Source
none = record { from = 0; to = 0; count = 0 }

found : (sources rest : List Source) (first index : ℕ) → rest ≡ drop first sources → get_or sources (first + index) none ≡ get_or rest index none
found sources rest first index is = sym (ap (λ (l : List Source). get_or l index none) is ∙ get_or-drop first sources index none)

within : (sources rest : List Source) (first index : ℕ) → rest ≡ drop first sources → index < length rest → first + index < length sources
within sources rest first index is lt = omega (arith, lt, ap length is, length-drop first sources)

here : (sources rest : List Source) (first index : ℕ) → AreSources 8 sources → rest ≡ drop first sources → index < length rest
    → IsSource (8 + counted (take (first + index) sources)) (get_or rest index none)
here sources rest first index are is lt =
    subst (IsSource (8 + counted (take (first + index) sources))) (found sources rest first index is) (source_at 8 sources (first + index) none are (within sources rest first index is lt))

low : (sources rest : List Source) (first index : ℕ) → AreSources 8 sources → counted sources ≤ 2 ^ 40 → rest ≡ drop first sources → index < length rest
    → (get_or rest index none).to + (get_or rest index none).count ≤ 2 ^ 41
low sources rest first index are few is lt =
    omega (
      arith,
      few,
      (here sources rest first index are is lt).place,
      counted_more sources (first + index) none (within sources rest first index is lt),
      counted_take sources (first + index + 1),
      ap (λ (s : Source). s.count) (found sources rest first index is),
    )

pub overflow_mul-source : goal.overflow_mul-source
overflow_mul-source g c =
    omega (arith, low c.args.sources.now c.split_at.result.1.now c.sources_before-first.result c.loop-source.source-index c.requires.sources c.requires.few c.split_at.ensures.back c.loop-source-test.true)

pub lay_source-requires-clause-low : goal.lay_source-requires-clause-low
lay_source-requires-clause-low g c =
    (here c.args.sources.now c.split_at.result.1.now c.sources_before-first.result c.loop-source.source-index c.requires.sources c.split_at.ensures.back c.loop-source-test.true).low

pub lay_source-requires-clause-place : goal.lay_source-requires-clause-place
lay_source-requires-clause-place g c =
    low c.args.sources.now c.split_at.result.1.now c.sources_before-first.result c.loop-source.source-index c.requires.sources c.requires.few c.split_at.ensures.back c.loop-source-test.true

pub returns-in_err-lay_source-clause-quiet : goal.returns-in_err-lay_source-clause-quiet
returns-in_err-lay_source-clause-quiet g c =
    run_joined (λ f. ⊥) (g.D.Disk.state c.args.disk.now) (g.D.Disk.state c.loop-source.disk) (g.D.Disk.state c.lay_source.new.disk) (λ files. Unit {0}) c.loop-source.invariant.quiet c.lay_source.ensures.quiet

pub loop-source-init : goal.loop-source-init
loop-source-init g c = record {
  few = omega (arith, c.sources_before-first.ensures.within);
  laid = λ told long. sources_early c.args.from (c.sources_before-first.result + 0) ((g.D.Disk.state c.args.disk.now).seen c.args.file) c.args.sources.now c.args.out.now long
      (subst (λ (k : ℕ). (k ≡ 0) ⊎ (512 * (8 + counted (take k c.args.sources.now)) ≤ c.args.from)) (let e : c.sources_before-first.result ≡ c.sources_before-first.result + 0 = omega arith in e) c.sources_before-first.ensures.before);
  size = refl;
  quiet = run_started (λ f. ⊥) (g.D.Disk.state c.args.disk.now) (λ files. Unit {0}) (λ files left. g.met.D.Disk.now_at c.args.disk.now files left) (λ files leaves. tt);
  faults = refl;
}

pub loop-source-preserved : goal.loop-source-preserved
loop-source-preserved g c =
    let sources : List Source = c.args.sources.now in
    let rest : List Source = c.split_at.result.1.now in
    let first : ℕ = c.sources_before-first.result in
    let index : ℕ = c.loop-source.source-index in
    let old = g.D.Disk.state c.args.disk.now in
    let mid = g.D.Disk.state c.loop-source.disk in
    let so_far = c.loop-source.invariant in
    let source : Source = get_or rest index none in
    let same : mid.seen c.args.file ≡ old.seen c.args.file = so_far.quiet.others.seen c.args.file (λ x. x) in
    let lt : first + index < length sources = within sources rest first index c.split_at.ensures.back c.loop-source-test.true in
    record {
      few = omega (arith, lt);
      laid = λ told long.
          subst (λ (k : ℕ). Lays c.args.from 4096 (copied (old.seen c.args.file) (take k sources)) c.args.out.now c.lay_source.new.out) (let e : first + index + 1 ≡ first + (index + 1) = omega arith in e)
          (sources_next c.args.from (first + index) (old.seen c.args.file) sources source none c.args.out.now c.loop-source.out c.lay_source.new.out long lt
          (found sources rest first index c.split_at.ensures.back)
          (here sources rest first index c.requires.sources c.split_at.ensures.back c.loop-source-test.true).place
          (so_far.laid told long)
          (subst (λ (bytes : List ℕ). Lays c.args.from (512 * source.to) (piece (512 * source.from) (512 * source.count) bytes) c.loop-source.out c.lay_source.new.out) same
          (c.in_ok-lay_source.ensures.laid told
          (subst (λ (bytes : List ℕ). 512 * (source.from + source.count) ≤ length bytes) (sym same)
          (subst (λ (s : Source). 512 * (s.from + s.count) ≤ length (old.seen c.args.file)) (found sources rest first index c.split_at.ensures.back) (long (first + index) none lt))))));
      size = c.lay_source.ensures.size ∙ so_far.size;
      quiet = run_joined (λ f. ⊥) old mid (g.D.Disk.state c.lay_source.new.disk) (λ files. Unit {0}) so_far.quiet c.lay_source.ensures.quiet;
      faults = calm_ok g.D.Disk.faults c.loop-source.disk c.lay_source.new.disk c.in_ok-lay_source.ensures.cause ∙ so_far.faults;
    }

pub returns-then-source-end-clause-laid : goal.returns-then-source-end-clause-laid
returns-then-source-end-clause-laid g c = λ told long.
    let sources : List Source = c.args.sources.now in
    let rest : List Source = c.split_at.result.1.now in
    let first : ℕ = c.sources_before-first.result in
    let index : ℕ = c.loop-source.source-index in
    let place = (here sources rest first index c.requires.sources c.split_at.ensures.back c.loop-source-test.true).place in
    sources_done c.args.from (first + index) ((g.D.Disk.state c.args.disk.now).seen c.args.file) sources c.args.out.now c.loop-source.out long (c.loop-source.invariant.laid told long)
    (inr (omega (arith, c.if-source-end.true, place, c.loop-source.invariant.size)))

pub returns-after-loop-source-clause-cause : goal.returns-after-loop-source-clause-cause
returns-after-loop-source-clause-cause g c = calm_so_far g.D.Disk.faults c.args.disk.now c.loop-source.disk c.loop-source.invariant.faults

pub returns-then-source-end-clause-cause : goal.returns-then-source-end-clause-cause
returns-then-source-end-clause-cause g c = calm_so_far g.D.Disk.faults c.args.disk.now c.loop-source.disk c.loop-source.invariant.faults
