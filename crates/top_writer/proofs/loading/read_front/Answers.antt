use Rattle.std.proofs.Common.{◌≡◌, ℕ, List, length, take, ap, ◌∙◌, rules, arith}
use Rattle.top_writer.proofs.loading.read_front.Goals as goal

pub returns-clause-front : goal.returns-clause-front
returns-clause-front g c = λ told.
    let len_is = c.in_ok-len.ensures.size told in
    let long : length c.read_at.new.out ≡ 4096 = search rules in
    record {
      len_is = len_is;
      long = omega (arith, len_is);
      block_is = c.in_ok-read_at.ensures.bytes told
          ∙ ap (λ (k : ℕ). take k ((g.D.Disk.state c.size.new.self).seen c.args.file)) long
          ∙ ap (λ (file : List ℕ). take 4096 file) c.size.ensures.steps.seen;
    }
