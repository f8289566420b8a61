use Rattle.std.proofs.Common.{◌≡◌, ◌+◌, List, ◌++◌, ◌∷◌, [], take, length, sym, ap, ◌∙◌, subst, arith}
use Rattle.std.proofs.lemmas.List.{take_more, length-take-le}
use Rattle.std.proofs.lemmas.List.Elements.{All-get_or}
use Rattle.top_writer.specs.View.{sectors_of}
use Rattle.image_core.specs.declared.steps.Numbered.{Numbered}
use Rattle.image_core.specs.Steps.{MayStep}
use Rattle.image_core.proofs.StepLists.{Went, went-none, went-more, went-goes, went-stands, went-replies, went-standing, went-steps, went-sectors, may-more}
use Rattle.image_core.proofs.steps.make_all.Goals as goal

pub loop-numbered-init : goal.loop-numbered-init
loop-numbered-init g c = went-none g.D.Disk c.args.image.now c.args.replies.now.items

pub make_next-requires-clause-standing : goal.make_next-requires-clause-standing
make_next-requires-clause-standing g c =
    went-standing g.D.Disk c.args.image.now c.loop-numbered.image c.loop-numbered.numbered-index c.args.list.now c.args.replies.now.items c.loop-numbered.replies.items
    c.loop-numbered.invariant c.requires.standing

pub make_next-requires-clause-steps : goal.make_next-requires-clause-steps
make_next-requires-clause-steps g c =
    let i = c.loop-numbered.numbered-index in
    let steps = went-steps g.D.Disk c.args.image.now c.loop-numbered.image i c.args.list.now c.args.replies.now.items c.loop-numbered.replies.items c.loop-numbered.invariant c.requires.standing in
    let below = c.loop-numbered-test.true in
    let front : length (take i c.args.list.now) ≡ i = length-take-le i c.args.list.now (omega (arith, below)) in
    omega (arith, steps, front, below, c.requires.steps)

pub make_next-requires-clause-may : goal.make_next-requires-clause-may
make_next-requires-clause-may g c =
    let old = c.args.image.now in
    let sectors = went-sectors g.D.Disk old c.loop-numbered.image c.loop-numbered.numbered-index c.args.list.now c.args.replies.now.items c.loop-numbered.replies.items
    c.loop-numbered.invariant c.requires.standing in
    let s : Numbered = c.numbered-item.result in
    may-more (sectors_of old.parts.top) (sectors_of c.loop-numbered.image.parts.top) s.step sectors
    (subst (λ (t : Numbered). MayStep (sectors_of old.parts.top) t.step) (sym c.numbered-item.is)
    (All-get_or (λ (t : Numbered). MayStep (sectors_of old.parts.top) t.step) c.args.list.now c.loop-numbered.numbered-index s c.loop-numbered-test.true c.requires.may))

pub returns-in_err-make_next-clause-goes : goal.returns-in_err-make_next-clause-goes
returns-in_err-make_next-clause-goes g c =
    rw (c.in_err-make_next.ensures.image, c.in_err-make_next.ensures.replies)
    (went-goes g.D.Disk c.args.image.now c.loop-numbered.image c.loop-numbered.numbered-index c.args.list.now c.args.replies.now.items c.loop-numbered.replies.items c.loop-numbered.invariant)

pub returns-in_err-make_next-clause-stands : goal.returns-in_err-make_next-clause-stands
returns-in_err-make_next-clause-stands g c =
    rw (c.in_err-make_next.ensures.image, c.in_err-make_next.ensures.replies)
    (went-stands g.D.Disk c.args.image.now c.loop-numbered.image c.loop-numbered.numbered-index c.args.list.now c.args.replies.now.items c.loop-numbered.replies.items c.loop-numbered.invariant)

pub returns-in_err-make_next-clause-right : goal.returns-in_err-make_next-clause-right
returns-in_err-make_next-clause-right g c =
    rw c.in_err-make_next.ensures.replies
    (went-replies g.D.Disk c.args.image.now c.loop-numbered.image c.loop-numbered.numbered-index c.args.list.now c.args.replies.now.items c.loop-numbered.replies.items c.loop-numbered.invariant)

pub loop-numbered-preserved : goal.loop-numbered-preserved
loop-numbered-preserved g c =
    let old = c.args.image.now in
    let new = c.make_next.new.image in
    let i = c.loop-numbered.numbered-index in
    let s : Numbered = c.numbered-item.result in
    let took : take (i + 1) c.args.list.now ≡ take i c.args.list.now ++ s ∷ [] =
    take_more c.args.list.now i s c.loop-numbered-test.true ∙ ap (λ (t : Numbered). take i c.args.list.now ++ t ∷ []) (sym c.numbered-item.is) in
    subst (λ (l : List Numbered). Went g.D.Disk old new l c.args.replies.now.items c.make_next.new.replies.items) (sym took)
    (went-more g.D.Disk old c.loop-numbered.image new (take i c.args.list.now) s c.args.replies.now.items c.loop-numbered.replies.items c.make_next.new.replies.items
    c.loop-numbered.invariant c.in_ok-make_next.ensures.ok)

pub returns-clause-right : goal.returns-clause-right
returns-clause-right g c =
    went-replies g.D.Disk c.args.image.now c.loop-numbered.image c.loop-numbered.numbered-index c.args.list.now c.args.replies.now.items c.loop-numbered.replies.items c.loop-numbered.invariant

pub returns-clause-stands : goal.returns-clause-stands
returns-clause-stands g c =
    went-stands g.D.Disk c.args.image.now c.loop-numbered.image c.loop-numbered.numbered-index c.args.list.now c.args.replies.now.items c.loop-numbered.replies.items c.loop-numbered.invariant

pub returns-clause-goes : goal.returns-clause-goes
returns-clause-goes g c =
    went-goes g.D.Disk c.args.image.now c.loop-numbered.image c.loop-numbered.numbered-index c.args.list.now c.args.replies.now.items c.loop-numbered.replies.items c.loop-numbered.invariant
