-- One header more.
use Rattle.std.proofs.Common.{sym, ◌∙◌}
use Rattle.http_range.proofs.Naming.{named, not_named}
use Rattle.http_range.proofs.fields.fields_of.Goals as goal
use Rattle.http_range.proofs.fields.fields_of.Goals.{then-is_named, else-is_named}

pub loop-at-preserved : goal.loop-at-preserved
loop-at-preserved c =
    elim c.if-is_named.branch [
      | then-is_named w ↦ rw w.found-is (named _ _ _ _ _ _ c.loop-at-test.true (sym c.is_named.ensures ∙ w.if-is_named.true)
          (w.one_more-found.ensures c.args.bytes.now _ c.loop-at.invariant (c.requires c.loop-at.at _ c.loop-at-test.true).1))
      | else-is_named w ↦ rw w.found-is (not_named _ _ _ _ _ _ c.loop-at-test.true (sym c.is_named.ensures ∙ w.if-is_named.false) c.loop-at.invariant)
    ]
