use Rattle.std.proofs.Common.{◌≡◌, ◌+◌, ◌≤◌, List, [], ◌∷◌, ◌++◌, length, take, refl, sym, ap, ◌∙◌, subst, arith}
use Rattle.std.proofs.lemmas.List.{take_more, take_all}
use Rattle.sector_extent.specs.CauseLaws.{calm_value, calm_ok}
use Rattle.sector_extent.specs.declared.extent.Extent.{Extent}
use Rattle.top_writer.specs.Gaps.{IsHole}
use Rattle.top_writer.specs.View.{sectors_of}
use Rattle.top_writer.specs.declared.fault.ReadFault.TheVariants.{Failed}
use Rattle.top_writer.proofs.Going.{fits_quiet}
use Rattle.top_writer.proofs.QuietLaws.{quiet_none, quiet_joined}
use Rattle.image_core.specs.Upper.{AreOverlaid, AreAdded}
use Rattle.image_core.specs.Whole.{LiesIn}
use Rattle.image_core.proofs.OverTops.{overlaid-more, added-more}
use Rattle.image_core.proofs.upper.read_parts.Goals as goal

pub loop-extent-init : goal.loop-extent-init
loop-extent-init g c = record {
  bytes = λ told n asked s may fits sheet. refl;
  gaps = λ n asked s may fits. refl;
  quiet = quiet_none (g.D.Disk.state c.args.disk.now) (λ files left. g.met.D.Disk.now_at c.args.disk.now files left);
  fitted = c.requires.fits;
  calm = refl;
}

pub read_within-requires-clause-there : goal.read_within-requires-clause-there
read_within-requires-clause-there g c =
    subst (λ n. LiesIn c.args.at n c.extent-item.result) (sym c.loop-extent.auto.out)
    (subst (LiesIn c.args.at (length c.args.out.now)) (sym c.extent-item.is) (c.requires.there c.loop-extent.extent-index c.extent-item.result c.loop-extent-test.true))

pub read_within-requires-clause-within : goal.read_within-requires-clause-within
read_within-requires-clause-within g c =
    subst (λ (e : Extent). e.at + e.count ≤ sectors_of c.args.top.now) (sym c.extent-item.is) (c.requires.within c.loop-extent.extent-index c.extent-item.result c.loop-extent-test.true)

pub read_within-requires-clause-fits : goal.read_within-requires-clause-fits
read_within-requires-clause-fits g c = c.loop-extent.invariant.fitted

pub loop-extent-preserved : goal.loop-extent-preserved
loop-extent-preserved g c =
    let before = c.loop-extent.invariant in
    let i = c.loop-extent.extent-index in
    let e : Extent = c.extent-item.result in
    let more : take (i + 1) c.args.extents.now ≡ take i c.args.extents.now ++ e ∷ [] =
    take_more c.args.extents.now i e c.loop-extent-test.true ∙ ap (λ (x : Extent). take i c.args.extents.now ++ x ∷ []) (sym c.extent-item.is) in
    record {
      bytes = λ told n asked s may fits sheet.
          subst (λ (l : List Extent). AreOverlaid s.cells c.args.at l c.args.out.now c.read_within.new.out) (sym more)
          (overlaid-more s.cells c.args.at (take i c.args.extents.now) e c.args.out.now c.loop-extent.out c.read_within.new.out (before.bytes told n asked s may fits sheet)
          (c.in_ok-read_within.ensures.bytes told n asked s may
          (fits_quiet g.D.Disk.tells (g.D.Disk.state c.args.disk.now) (g.D.Disk.state c.loop-extent.disk) n asked c.args.top.now s may before.quiet fits) sheet));
      gaps = λ n asked s may fits.
          subst (λ (l : List Extent). AreAdded (IsHole s.cells) l c.args.gaps.now c.read_within.new.gaps) (sym more)
          (added-more (IsHole s.cells) (take i c.args.extents.now) e c.args.gaps.now c.loop-extent.gaps c.read_within.new.gaps (before.gaps n asked s may fits)
          (c.in_ok-read_within.ensures.gaps n asked s may
          (fits_quiet g.D.Disk.tells (g.D.Disk.state c.args.disk.now) (g.D.Disk.state c.loop-extent.disk) n asked c.args.top.now s may before.quiet fits)));
      quiet = quiet_joined (g.D.Disk.state c.args.disk.now) (g.D.Disk.state c.loop-extent.disk) (g.D.Disk.state c.read_within.new.disk) before.quiet c.read_within.ensures.quiet;
      fitted = c.read_within.ensures.fitted;
      calm = calm_value g.D.Disk.faults c.loop-extent.disk c.read_within.new.disk tt Failed c.in_ok-read_within.ensures.cause ∙ before.calm;
    }

pub returns-clause-bytes : goal.returns-clause-bytes
returns-clause-bytes g c told n asked s may fits sheet =
    let all : take c.loop-extent.extent-index c.args.extents.now ≡ c.args.extents.now = take_all c.loop-extent.extent-index c.args.extents.now (omega (arith, c.loop-extent-test.false)) in
    subst (λ (l : List Extent). AreOverlaid s.cells c.args.at l c.args.out.now c.loop-extent.out) all (c.loop-extent.invariant.bytes told n asked s may fits sheet)

pub returns-clause-gaps : goal.returns-clause-gaps
returns-clause-gaps g c n asked s may fits =
    let all : take c.loop-extent.extent-index c.args.extents.now ≡ c.args.extents.now = take_all c.loop-extent.extent-index c.args.extents.now (omega (arith, c.loop-extent-test.false)) in
    subst (λ (l : List Extent). AreAdded (IsHole s.cells) l c.args.gaps.now c.loop-extent.gaps) all (c.loop-extent.invariant.gaps n asked s may fits)

pub returns-in_err-read_within-clause-quiet : goal.returns-in_err-read_within-clause-quiet
returns-in_err-read_within-clause-quiet g c =
    quiet_joined (g.D.Disk.state c.args.disk.now) (g.D.Disk.state c.loop-extent.disk) (g.D.Disk.state c.read_within.new.disk) c.loop-extent.invariant.quiet c.read_within.ensures.quiet
