use Rattle.std.proofs.Common.{◌≡◌, length, rules, ap, ◌∙◌}
use Rattle.block_disk.specs.Changes.{piece}
use Rattle.gate_mark.proofs.slots.read_both.Goals as goal

pub returns-clause-bytes : goal.returns-clause-bytes
returns-clause-bytes g c = λ told is_long.
    let state = g.D.Disk.state in
    let same : (state c.size.new.self).seen c.args.file ≡ (state c.args.disk.now).seen c.args.file = c.size.ensures.steps.seen ∙ c.sync.ensures.steps.seen in
    let len : length c.read_at.new.out ≡ 1024 = search rules in
    c.in_ok-read_at.ensures.bytes told ∙ ap (λ n. piece 0 n ((state c.size.new.self).seen c.args.file)) len ∙ ap (piece 0 1024) same
