use Rattle.std.proofs.Common.{refl}
use Rattle.std.specs.Fmt.{digits}
use Rattle.image_make.specs.Draws.{state_after}
use Rattle.image_make.specs.Acts.{made_acts, tally_of}
use Rattle.image_make.proofs.tally.example_laws.Goals as goal

pub returns : goal.returns
unfolding digits state_after tally_of made_acts
returns c = record {
  two = record {
    first = refl;
    second = refl;
    third = refl;
    fourth = refl;
    fifth = refl;
    sixth = refl;
    acts = refl;
    sectors = refl;
    bytes = refl;
    lines = refl;
  };
}
