use Rattle.std.proofs.Common.{◌≡◌, ◌+◌, ◌++◌, false, true, List, length, map, sym, ap, subst, ◌∙◌, refl, arith, length-append}
use Rattle.std.specs.Prelude.{Contains}
use Rattle.std.specs.Option.{option_map}
use Rattle.std.proofs.lemmas.List.{length-map}
use Rattle.sealed_layer.specs.Layers.{LayerIndex}
use Rattle.image_core.specs.declared.parts.Commit.{Commit}
use Rattle.image_core.proofs.CommitRefusals.{uuid-of, freeze-twice, freeze-ok, among-more, freeze-free}
use Rattle.image_core.proofs.parts.Stack.check_freeze.Goals as goal

pub returns-then-has_uuid-2-clause-refused : goal.returns-then-has_uuid-2-clause-refused
returns-then-has_uuid-2-clause-refused c =
    freeze-twice (option_map (λ (d : Commit). d.uuid) c.args.self.now.commit) (map uuid-of (c.args.self.now.lowers ++ c.args.self.now.committed.items)) c.args.uuid.now
    (ap (option_map (λ (d : Commit). d.uuid)) c.in_default.is)
    (omega (arith, c.if-as_slice-len-ge-MOST_LAYERS.false, ap length c.as_slice.ensures, c.len.ensures, length-map (c.args.self.now.lowers ++ c.args.self.now.committed.items) uuid-of, length-append c.args.self.now.lowers c.args.self.now.committed.items))
    (among-more c.args.self.now.lowers c.args.self.now.committed.items c.args.uuid.now
    (subst (λ (l : List LayerIndex). Contains (map uuid-of l) c.args.uuid.now) c.as_slice-3.ensures.value (c.has_uuid-2.ensures.0 c.if-has_uuid-2.true)))

pub returns-clause-ok : goal.returns-clause-ok
returns-clause-ok c =
    freeze-free (option_map (λ (d : Commit). d.uuid) c.args.self.now.commit) c.args.self.now.lowers c.args.self.now.committed.items c.args.uuid.now
    (ap (option_map (λ (d : Commit). d.uuid)) c.in_default.is)
    (omega (arith, c.if-as_slice-len-ge-MOST_LAYERS.false, ap length c.as_slice.ensures, c.len.ensures))
    (λ has. absurd (let e : false ≡ true = sym c.if-has_uuid.false ∙ c.has_uuid.ensures.1 (subst (λ (l : List LayerIndex). Contains (map uuid-of l) c.args.uuid.now) (sym c.as_slice-2.ensures) has) in cc))
    (λ has. absurd (let e : false ≡ true = sym c.if-has_uuid-2.false ∙ c.has_uuid-2.ensures.1 (subst (λ (l : List LayerIndex). Contains (map uuid-of l) c.args.uuid.now) (sym c.as_slice-3.ensures.value) has) in cc))

pub returns-clause-refused : goal.returns-clause-refused
returns-clause-refused c =
    let free = returns-clause-ok c in
    freeze-ok (option_map (λ (d : Commit). d.uuid) c.args.self.now.commit) (map uuid-of (c.args.self.now.lowers ++ c.args.self.now.committed.items)) c.args.uuid.now free.none free.few free.unlike tt
