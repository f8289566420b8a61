use Rattle.std.proofs.Common.{◌≡◌, ◌++◌, ◌-◌, ℕ, List, ap, ◌∙◌, replicate, length}
use Rattle.std.specs.Int.{w64, to_le_bytes}
use Rattle.seg_mapping.specs.Rows.{spelling, first_word, second_word}
use Rattle.seg_mapping.proofs.encode.Goals as goal

pub returns : goal.returns
unfolding spelling
returns c =
    let row = c.args.row.now in
    let first : c.put_u64_le.new.self ≡ to_le_bytes w64 (first_word row) =
    c.put_u64_le.ensures ∙ ap (λ (x : List ℕ). x ++ to_le_bytes w64 c.words_of-first.result.0) c.new-bytes.ensures ∙ ap (to_le_bytes w64) c.words_of-first.ensures.first in
    let second : c.put_u64_le-2.new.self ≡ to_le_bytes w64 (first_word row) ++ to_le_bytes w64 (second_word row) =
    c.put_u64_le-2.ensures ∙ ap (λ (x : List ℕ). x ++ to_le_bytes w64 c.words_of-first.result.1) first ∙ ap (λ (n : ℕ). to_le_bytes w64 (first_word row) ++ to_le_bytes w64 n) c.words_of-first.ensures.second in
    record {
      spelled = c.finish.ensures ∙ ap (λ (x : List ℕ). x ++ replicate {A = ℕ} (16 - length x) 0) second;
      fits = c.requires;
      tag = c.words_of-first.ensures.tag;
    }
