use Rattle.block_disk.proofs.Copies.{all_same, copied_bytes}
use Rattle.block_disk.proofs.files.copy_of.Goals as goal

pub returns : goal.returns
returns c = copied_bytes _ _ (λ x y same. same) (λ v w same. all_same _ (λ x y same. same) v.items w.items same.0) c.args.files.now c.in_ok-clone.field-0 c.in_ok-clone.ensures.cases
