use Rattle.std.proofs.Common.{rules, ◌≡◌, ◌∙◌, ℕ, ap, length, replicate}
use Rattle.std.specs.Prelude.{IsTrue}
use Rattle.lsmt_header.specs.Faults.{HasSize}
use Rattle.lsmt_header.specs.RawFields.{raw_in}
use Rattle.lsmt_header.proofs.fields.tag_of.Goals as goal

pub returns-in-None-clause-clean : goal.returns-in-None-clause-clean
returns-in-None-clause-clean c =
    let has_size : HasSize c.args.kind (raw_in c.args.fields.now) = search rules in
    let long : length c.args.fields.now.rest.now ≡ 3768 = search rules in
    (((has_size, (λ sealed nil. let lacks : IsTrue c.lacks.result = c.lacks.ensures.1 (sealed, nil) in cc)), search rules, search rules), (c.in-None.ensures.none ∙ ap (λ (n : ℕ). replicate {A = ℕ} n 0) long))
