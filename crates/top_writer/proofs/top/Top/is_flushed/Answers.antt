use Rattle.std.proofs.Common.{◌≡◌, sym, ap, ◌∙◌, rules}
use Rattle.gate_mark.specs.Mark.{IsSettled}
use Rattle.top_writer.specs.Files.{rows_said, sectors_said}
use Rattle.top_writer.proofs.top.Top.is_flushed.Goals as goal

pub returns-then-rows-self : goal.returns-then-rows-self
returns-then-rows-self c =
    let settled : IsSettled c.args.self.now.mark = c.is_settled.ensures.0 (search rules) in
    let rows : rows_said c.args.self.now.mark.body ≡ c.args.self.now.rows =
    ap rows_said (sym c.get.ensures) ∙ sym c.counts_of-rows.ensures.rows ∙ c.if-rows-self.true in
    let said : sectors_said c.args.self.now.mark.body ≡ c.counts_of-rows.result.1 =
    ap sectors_said (sym c.get.ensures) ∙ sym c.counts_of-rows.ensures.sectors in (
      λ yes. let same : c.counts_of-rows.result.1 ≡ c.args.self.now.filled = search rules in
          record { settled = settled; rows_are = rows; sectors_are = said ∙ same },
      λ all. let same : c.counts_of-rows.result.1 ≡ c.args.self.now.filled = sym said ∙ all.sectors_are in
          search rules,
    )
