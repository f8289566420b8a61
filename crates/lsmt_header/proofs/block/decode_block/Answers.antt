use Rattle.std.proofs.Common.{◌≡◌, Ok, Result, ap, sym, ◌∙◌, subst}
use Rattle.std.proofs.lemmas.Result.{err_from_is_err_and}
use Rattle.lsmt_header.specs.declared.head.Head.{Head}
use Rattle.lsmt_header.specs.declared.head.HeadFault.{HeadFault}
use Rattle.lsmt_header.specs.Blocks.{RawHead, raw_head}
use Rattle.lsmt_header.specs.Faults.{IsFault}
use Rattle.lsmt_header.specs.RawFields.{raw_in}
use Rattle.lsmt_header.proofs.BlockLemmas.{one_head, raw_of-block, raw_head-raw_block}
use Rattle.lsmt_header.proofs.FaultLemmas.{no_fault, clean_block}
use Rattle.lsmt_header.proofs.block.decode_block.Goals as goal

abbrev done : Head → Result Head HeadFault
done head = Ok head

pub returns-in_err-tag-clause-only : goal.returns-in_err-tag-clause-only
returns-in_err-tag-clause-only c =
    λ head same of.
    let fields = raw_in c.read_fields-fields.result in
    let places : raw_head c.args.block.now ≡ fields = ap raw_head c.read_fields-fields.ensures.spelled ∙ raw_head-raw_block fields c.read_fields-fields.ensures.sized in
    absurd (no_fault c.args.kind head c.in_err-tag.field-0.0 same of.valid of.fits
    (subst (λ (raw : RawHead). IsFault c.args.kind raw c.in_err-tag.field-0.0) (sym places ∙ raw_of-block c.args.block.now head of) c.in_err-tag.ensures.fault))

pub returns-in_err-tag-clause-fault : goal.returns-in_err-tag-clause-fault
returns-in_err-tag-clause-fault c =
    let fields = raw_in c.read_fields-fields.result in
    let places : raw_head c.args.block.now ≡ fields = ap raw_head c.read_fields-fields.ensures.spelled ∙ raw_head-raw_block fields c.read_fields-fields.ensures.sized in
    let p = err_from_is_err_and c.from_residual.result c.from_residual.ensures.1 in
    rw (p.1, p.2) (subst (λ (raw : RawHead). IsFault c.args.kind raw c.in_err-tag.field-0.0) (sym places) c.in_err-tag.ensures.fault)

pub returns-clause-only : goal.returns-clause-only
returns-clause-only c =
    λ head same of.
    ap done (one_head c.args.block.now _ head
    (clean_block c.args.kind c.args.block.now (raw_in c.read_fields-fields.result) c.in_ok-tag.tag c.read_fields-fields.ensures.spelled c.read_fields-fields.ensures.sized c.in_ok-tag.ensures.clean) of)
