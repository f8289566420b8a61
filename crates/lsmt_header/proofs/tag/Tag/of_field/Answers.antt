use Rattle.std.proofs.Common.{◌≡◌, sym, ◌∙◌, length, replicate, subst}
use Rattle.std.specs.Prelude.{IsTrue, IsUtf8}
use Rattle.lsmt_header.proofs.TagLemmas.{tag_parts}
use Rattle.lsmt_header.proofs.tag.Tag.of_field.Goals as goal

pub returns-then-not-all_zero-clause-none : goal.returns-then-not-all_zero-clause-none
returns-then-not-all_zero-clause-none c =
    λ text is e.
    let zeros : c.split_at.result.1.now ≡ replicate (length c.split_at.result.1.now) 0 =
    rw c.split_at.ensures.back (tag_parts c.args.field.now text c.text_len-len.result c.text_len-len.ensures is e).1 in
    let passed : IsTrue c.all_zero.result = c.all_zero.ensures.1 zeros in
    cc

pub returns-in-Err-clause-none : goal.returns-in-Err-clause-none
returns-in-Err-clause-none c =
    λ text is e.
    let front : text ≡ c.split_at.result.0.now = sym (c.split_at.ensures.front ∙ (tag_parts c.args.field.now text c.text_len-len.result c.text_len-len.ensures is e).0) in
    c.in-Err.ensures.cases.0 (subst IsUtf8 front is.utf8)
