-- What a line of a control is, by its bytes.
use Rattle.std.proofs.Common.{zero, suc, ◌≡◌, ◌≢◌, ℕ, ◌≤◌, Bool, true, false, List, [], ◌∷◌, ◌++◌, length, drop, refl, ap, ◌∙◌, arith}
use Rattle.std.specs.Prelude.{Option, Some, None, option_map, if◌then◌else◌}
use Rattle.std.proofs.lemmas.Bool.{le-ltb, lt-ltb, ne_eqb}
use Rattle.std.proofs.lemmas.List.{drop_all}
use Rattle.std.proofs.lemmas.List.Elements.{All-head, All-tail}
use Rattle.control_session.specs.declared.control_end.ControlEnd.TheVariants.{LongLine, TooManyLines}
use Rattle.control_session.specs.declared.line.Line.{Line}
use Rattle.control_session.specs.declared.line.Line.TheVariants.{Asks, NoLayer, Quit, Other}
use Rattle.control_session.specs.Lines.{cut_line, line_said}
use Rattle.control_session.specs.Reading.{IsPlain}
use Rattle.control_session.specs.Controls.{Answer, Rest, stop, stop_at, past, answered, at_end, cut_at, one_line, lines}
use Rattle.control_session.specs.Sessions.{IsIdle}

abbrev with_byte : ℕ → Option (List ℕ × List ℕ) → Option (List ℕ × List ℕ)
with_byte byte there = option_map (λ p. (byte ∷ p.0, p.1)) there

cut-whole : (line rest : List ℕ) → IsPlain line → cut_line (line ++ 10 ∷ rest) ≡ Some (line, rest)
cut-whole [] rest plain = refl
cut-whole (b ∷ line) rest plain =
    ap (λ same. if same then Some ([], line ++ 10 ∷ rest) else with_byte b (cut_line (line ++ 10 ∷ rest))) (ne_eqb b 10 (All-head (λ x. x ≢ 10) b line plain))
    ∙ ap (with_byte b) (cut-whole line rest (All-tail (λ x. x ≢ 10) b line plain))

cut-none : (bytes : List ℕ) → IsPlain bytes → cut_line bytes ≡ None
cut-none [] plain = refl
cut-none (b ∷ bytes) plain =
    ap (λ same. if same then Some ([], bytes) else with_byte b (cut_line bytes)) (ne_eqb b 10 (All-head (λ x. x ≢ 10) b bytes plain))
    ∙ ap (with_byte b) (cut-none bytes (All-tail (λ x. x ≢ 10) b bytes plain))

cut-one : (go : Rest) (closed : Bool) (bytes : List ℕ) (answers : List Answer) → 1 ≤ length bytes → one_line go closed bytes answers ≡ cut_at go bytes (cut_line bytes) closed answers
unfolding one_line
cut-one go closed [] answers some = absurd (omega arith)
cut-one go closed (b ∷ bytes) answers some = refl

some-behind : (line rest : List ℕ) → 1 ≤ length (line ++ 10 ∷ rest)
some-behind [] rest = omega arith
some-behind (b ∷ line) rest = omega arith

-- a line with its LF
pub line-whole : (go : Rest) (closed : Bool) (line rest : List ℕ) (answers : List Answer) → IsPlain line → length line ≤ 256
    → one_line go closed (line ++ 10 ∷ rest) answers ≡ answered go (line_said line) closed rest answers
line-whole go closed line rest answers plain short =
    cut-one go closed (line ++ 10 ∷ rest) answers (some-behind line rest)
    ∙ ap (λ c. cut_at go (line ++ 10 ∷ rest) c closed answers) (cut-whole line rest plain)
    ∙ ap (λ b. elim b [ true ↦ stop_at LongLine true (drop 257 (line ++ 10 ∷ rest)) | false ↦ answered go (line_said line) closed rest answers ]) (le-ltb 256 (length line) short)

-- the last line of an input that ended
pub line-last : (go : Rest) (line : List ℕ) (answers : List Answer) → IsPlain line → 1 ≤ length line → length line ≤ 256
    → one_line go true line answers ≡ answered at_end (line_said line) true [] answers
line-last go line answers plain some short =
    cut-one go true line answers some
    ∙ ap (λ c. cut_at go line c true answers) (cut-none line plain)
    ∙ ap (λ b. elim b [ true ↦ stop_at LongLine true (drop 257 line) | false ↦ answered at_end (line_said line) true [] answers ]) (le-ltb 256 (length line) short)

-- more bytes than a line may have
pub line-long : (go : Rest) (bytes : List ℕ) (answers : List Answer) → IsPlain bytes → length bytes ≡ 257 → one_line go false bytes answers ≡ stop_at LongLine true []
line-long go bytes answers plain long =
    cut-one go false bytes answers (omega arith)
    ∙ ap (λ c. cut_at go bytes c false answers) (cut-none bytes plain)
    ∙ ap (λ b. elim b [ true ↦ stop_at LongLine true (drop 257 bytes) | false ↦ stop true ]) (lt-ltb 256 (length bytes) (omega arith))
    ∙ ap (stop_at LongLine true) (drop_all 257 bytes (omega arith))

-- a part of a line
pub line-part : (go : Rest) (bytes : List ℕ) (answers : List Answer) → IsPlain bytes → length bytes ≤ 256 → (begun : Bool) × (one_line go false bytes answers ≡ stop begun)
unfolding one_line
line-part go [] answers plain short = (false, refl)
line-part go (b ∷ bytes) answers plain short = (
  true,
  ap (λ c. cut_at go (b ∷ bytes) c false answers) (cut-none (b ∷ bytes) plain)
      ∙ ap (λ long. elim long [ true ↦ stop_at LongLine true (drop 257 (b ∷ bytes)) | false ↦ stop true ]) (le-ltb 256 (length (b ∷ bytes)) short),
)

-- no line
pub line-none : (go : Rest) (closed : Bool) (answers : List Answer) → one_line go closed [] answers ≡ stop false
unfolding one_line
line-none go closed answers = refl

-- ---- what comes behind a line

pub past-on : (go : Rest) (line : Line) (closed : Bool) (bytes : List ℕ) (answers : List Answer) → (line ≡ Quit → ⊥) → past go line closed bytes answers ≡ go closed bytes answers
past-on go (Asks call) closed bytes answers other = refl
past-on go NoLayer closed bytes answers other = refl
past-on go Quit closed bytes answers other = absurd (other refl)
past-on go Other closed bytes answers other = refl

pub past-idle : (go : Rest) (line : Line) → IsIdle go → IsIdle (past go line)
past-idle go (Asks call) idle = idle
past-idle go NoLayer idle = idle
past-idle go Quit idle = λ closed. (refl, refl, refl, refl)
past-idle go Other idle = idle

pub end-idle : IsIdle at_end
end-idle = λ closed. (refl, refl, refl, refl)

-- ---- one line after another

pub lines-idle : (left : ℕ) → IsIdle (lines left)
unfolding lines one_line
lines-idle zero = λ closed. (refl, refl, refl, refl)
lines-idle (suc left) = λ closed. (refl, refl, refl, refl)

pub lines-suc : (left less : ℕ) (closed : Bool) (bytes : List ℕ) (answers : List Answer) → left ≡ suc less → lines left closed bytes answers ≡ one_line (lines less) closed bytes answers
unfolding lines
lines-suc left less closed bytes answers is = ap (λ k. lines k closed bytes answers) is

pub lines-zero : (closed : Bool) (bytes : List ℕ) (answers : List Answer) → lines 0 closed bytes answers ≡ stop_at TooManyLines false bytes
unfolding lines
lines-zero closed bytes answers = refl
