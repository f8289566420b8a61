use Rattle.std.proofs.Common.{◌≡◌, ◌+◌, ◌≤◌, vec_len, vec_capacity}
use Rattle.seg_table.proofs.leaf.fill_spares.Given as goal

abbrev pub invariant-loop : goal.invariant-loop
invariant-loop l = (vec_len l.initial.spares + l.counter ≡ vec_len l.spares) × (vec_len l.initial.spares + l.more ≤ vec_capacity l.spares)
