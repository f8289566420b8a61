use Rattle.flat_image.proofs.PlainLaws.{plain-fresh}
use Rattle.flat_image.proofs.plain_port.PlainPort.new.Goals as goal

pub invariant_of-result : goal.invariant_of-result
invariant_of-result c =
    plain-fresh c.args.sectors c.in_ok-image.image.items c.new.result.items c.requires.0 c.requires.1 (c.in_ok-image.ensures.items_if_clones_equal (λ y h. h)) c.new.ensures.items
