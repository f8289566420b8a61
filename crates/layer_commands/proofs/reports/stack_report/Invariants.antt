use Rattle.std.proofs.Common.{◌≡◌, ◌++◌, drop, map, string_bytes}
use Rattle.layer_commands.specs.Reports.{stack_lines}
use Rattle.layer_commands.proofs.reports.stack_report.Given as goal

abbrev pub invariant-loop-number : goal.invariant-loop-number
invariant-loop-number l = string_bytes l.text ++ stack_lines l.number (map (λ layer. layer.head) (drop l.number l.layers)) ≡ stack_lines 0 (map (λ layer. layer.head) l.layers)
