use Rattle.std.proofs.Common.{map, string_bytes}
use Rattle.tool_setup.specs.Words.{command_of}
use Rattle.lane_export.specs.Exporting.{connections_if}
use Rattle.lane_export.proofs.Complete.{memory-complete, unread-complete}
use Rattle.lane_export.proofs.exporting.run_export.Goals as goal

pub returns-in-Err-clause-complete : goal.returns-in-Err-clause-complete
returns-in-Err-clause-complete g c =
    let home = g.W.Harbour.home c.args.harbour.now in
    unread-complete (connections_if (command_of (map string_bytes c.args.words.now))) c.in-Err.refusal c.code.result c.code.ensures c.in-Err.ensures.err home home _
    (λ n x y is. memory-complete _ _ _ _ _ _ _ _ _ _ is)
