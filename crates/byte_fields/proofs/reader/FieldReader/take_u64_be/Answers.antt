use Rattle.std.proofs.Common.{ap, sym, ◌∙◌, List, ℕ, ◌++◌}
use Rattle.std.proofs.lemmas.Nat.{be_bytes_8}
use Rattle.byte_fields.proofs.reader.FieldReader.take_u64_be.Goals as goal

pub returns-clause-front : goal.returns-clause-front
returns-clause-front c =
    c.take_bytes.ensures.front ∙ ap (λ (front : List ℕ). front ++ c.take_bytes.new.self) (sym (be_bytes_8 c.take_bytes.result.now c.from_be_bytes.result c.take_bytes.ensures.size c.take_bytes.ensures.bytes c.from_be_bytes.ensures))
