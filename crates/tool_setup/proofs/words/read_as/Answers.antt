use Rattle.std.proofs.Common.{refl, map, string_bytes, codes}
use Rattle.std.specs.Prelude.{Ok}
use Rattle.clap.specs.Words.{Text}
use Rattle.tool_setup.specs.declared.command.Command.TheVariants as command
use Rattle.tool_setup.specs.Taken.{flagged, is_set}
use Rattle.tool_setup.proofs.Exits.{named_err}
use Rattle.tool_setup.proofs.words.read_as.Goals as goal

pub returns-in_err-stdin-in-Flatten-clause-gives : goal.returns-in_err-stdin-in-Flatten-clause-gives
returns-in_err-stdin-in-Flatten-clause-gives c =
    rw c.in-Flatten.is
    (named_err (λ (id : Text). flagged c.args.name.now id) (map string_bytes c.args.words.now) (λ id rows. Ok (command.Flatten (is_set id rows)))
    (codes "stdin") (codes "stdin") c.in_err-stdin-in-Flatten.field-0.0 c.from_residual.result refl c.in_err-stdin-in-Flatten.ensures c.from_residual.ensures.1)
