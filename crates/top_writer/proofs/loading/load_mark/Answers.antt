use Rattle.std.proofs.Common.{◌≡◌, ℕ, List, Option, Err, sym, subst}
use Rattle.gate_mark.specs.declared.mark.MarkFault.{MarkFault}
use Rattle.gate_mark.specs.declared.mark.MarkFault.TheVariants.{Worn}
use Rattle.gate_mark.specs.Mark.{LoadGives}
use Rattle.top_writer.specs.declared.fault.TopReason.TheVariants as why
use Rattle.top_writer.specs.Files.{Stored, HeadsAsked}
use Rattle.top_writer.specs.Reasons.{HasParent, IsReason}
use Rattle.top_writer.proofs.loading.load_mark.Goals as goal

worn : (n : ℕ) (asked : HeadsAsked) (t : Stored) (file : List ℕ) (fault : MarkFault) (sequence : ℕ) → fault ≡ Worn sequence → LoadGives file (Err fault)
    → HasParent n asked t → t.mark ≡ file → IsReason n asked t (why.MarkWorn sequence)
worn n asked t file fault sequence is gives has same =
    let given : LoadGives t.mark (Err (Worn sequence)) = subst (λ (f : List ℕ). LoadGives f (Err (Worn sequence))) (sym same) (subst (λ (e : MarkFault). LoadGives file (Err e)) is gives) in
    (has, given.0, given.1)

pub returns-in-Err-Worn-clause-reason : goal.returns-in-Err-Worn-clause-reason
returns-in-Err-Worn-clause-reason g c = λ told n asked t has same.
    worn n asked t ((g.D.Disk.state c.args.disk.now).seen c.mark_number.result) c.in-Err-Worn.field-0 c.in-Err-Worn.sequence c.in-Err-Worn.field-0-is (c.in-Err-Worn.ensures.gives told) has
    (let e : t.mark ≡ (g.D.Disk.state c.args.disk.now).seen c.mark_number.result = rw c.mark_number.ensures same in e)
