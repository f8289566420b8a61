-- What holds of each act that is drawn.
use Rattle.std.proofs.Common.{◌≡◌, ◌≢◌, ℕ, zero, suc, ◌+◌, ◌*◌, ◌^◌, ◌<◌, ◌≤◌, Bool, true, false, List, ◌++◌, replicate, refl, sym, ap, ◌∙◌, arith}
use Rattle.std.specs.Prelude.{if◌then◌else◌, ◌==◌, ◌||◌, ltb}
use Rattle.std.specs.Int.{w32, to_be_bytes, from_be_bytes}
use Rattle.std.proofs.lemmas.List.{append_cancel_left}
use Rattle.std.proofs.lemmas.Nat.{from_be_bytes-to_be_bytes_4}
use Rattle.lsmt_header.specs.Blocks.{nil}
use Rattle.image_make.specs.declared.draws.Drawn.{Drawn}
use Rattle.image_make.specs.declared.draws.Drawn.TheVariants.{Flush, Zero, Write, Commit}
use Rattle.image_make.specs.declared.tally.Tally.{Tally}
use Rattle.image_make.specs.Draws.{next, state_after, place_of, count_of, kind_of, byte_of, uuid_of, drawn}
use Rattle.image_make.specs.Acts.{IsSmall, tally_of, with_act, no_acts}
use Rattle.image_make.specs.Steps.{IsPart, IsDrawn}

-- the act of that number: its sectors lie in the image, and its uuid is the one of its number
abbrev pub IsNth : ℕ → Drawn → Type 0
IsNth number Flush = Unit {0}
IsNth number (Zero at count) = IsPart at count
IsNth number (Write at count byte) = IsPart at count
IsNth number (Commit uuid) = uuid ≡ uuid_of number

chosen : (flush zeros commit : Bool) (at count byte number : ℕ) → IsPart at count
    → IsNth number (if flush then Flush else if zeros then Zero at count else if commit then Commit (uuid_of number) else Write at count byte)
chosen true zeros commit at count byte number part = tt
chosen false true commit at count byte number part = part
chosen false false true at count byte number part = refl
chosen false false false at count byte number part = part

part-of : (first second : ℕ) → IsPart (place_of first) (count_of first second)
part-of first second = record { within = omega arith; few = omega arith }

pub nth-drawn : (seed number : ℕ) → IsNth number (drawn seed number)
nth-drawn seed number =
    let first : ℕ = next (state_after seed (3 * number)) in
    let second : ℕ = next first in
    let third : ℕ = next second in
    chosen (kind_of third == 0) (kind_of third == 1 || kind_of third == 2) (kind_of third == 15) (place_of first) (count_of first second) (byte_of third) number (part-of first second)

-- three draws more
pub three-more : (seed n : ℕ) → state_after seed (3 * (n + 1)) ≡ next (next (next (state_after seed (3 * n))))
unfolding state_after
three-more seed n = ap (λ (k : ℕ). state_after seed k) (let e : 3 * (n + 1) ≡ suc (suc (suc (3 * n))) = omega arith in e)

pub no-draws : (seed : ℕ) → seed ≡ state_after seed 0
unfolding state_after
no-draws seed = refl

one-number : (m n : ℕ) → m < 2 ^ 32 → n < 2 ^ 32 → replicate {A = ℕ} 12 0 ++ to_be_bytes w32 m ≡ replicate {A = ℕ} 12 0 ++ to_be_bytes w32 n → m ≡ n
one-number m n below under same =
    let bytes : to_be_bytes w32 m ≡ to_be_bytes w32 n = append_cancel_left (replicate {A = ℕ} 12 0) (to_be_bytes w32 m) (to_be_bytes w32 n) same in
    sym (from_be_bytes-to_be_bytes_4 m below) ∙ ap (λ (b : List ℕ). from_be_bytes w32 b) bytes ∙ from_be_bytes-to_be_bytes_4 n under

pub uuid-named : (number : ℕ) → number < 100000 → uuid_of number ≢ nil
uuid-named number few same =
    let e : number + 1 ≡ 0 = one-number (number + 1) 0 (omega (arith, few)) (omega arith) same in
    omega (arith, e)

pub uuid-once : (k number : ℕ) → k < number → number < 100000 → uuid_of number ≡ uuid_of k → ⊥
uuid-once k number before few same =
    let e : number + 1 ≡ k + 1 = one-number (number + 1) (k + 1) (omega (arith, few)) (omega (arith, before, few)) same in
    omega (arith, e, before)

pub is-drawn : (number : ℕ) (d : Drawn) → number < 100000 → IsNth number d → IsDrawn d
is-drawn number Flush few is = tt
is-drawn number (Zero at count) few is = is
is-drawn number (Write at count byte) few is = is
is-drawn number (Commit uuid) few is = λ same. uuid-named number few (sym is ∙ same)

-- ---- how many acts there are of each kind

more-commits : (done : Bool) (n : ℕ) (t : Tally) → IsSmall t n
    → IsSmall (if done then record t { commits = t.commits + 1 } else record t { refused = t.refused + 1 }) (suc n)
more-commits true n t is = record {
  writes = omega (arith, is.writes);
  zeros = omega (arith, is.zeros);
  flushes = omega (arith, is.flushes);
  commits = omega (arith, is.commits);
  refused = omega (arith, is.refused);
}
more-commits false n t is = record {
  writes = omega (arith, is.writes);
  zeros = omega (arith, is.zeros);
  flushes = omega (arith, is.flushes);
  commits = omega (arith, is.commits);
  refused = omega (arith, is.refused);
}

more-acts : (n : ℕ) (t : Tally) (d : Drawn) → IsSmall t n → IsSmall (with_act t d) (suc n)
more-acts n t Flush is = record {
  writes = omega (arith, is.writes);
  zeros = omega (arith, is.zeros);
  flushes = omega (arith, is.flushes);
  commits = omega (arith, is.commits);
  refused = omega (arith, is.refused);
}
more-acts n t (Zero at count) is = record {
  writes = omega (arith, is.writes);
  zeros = omega (arith, is.zeros);
  flushes = omega (arith, is.flushes);
  commits = omega (arith, is.commits);
  refused = omega (arith, is.refused);
}
more-acts n t (Write at count byte) is = record {
  writes = omega (arith, is.writes);
  zeros = omega (arith, is.zeros);
  flushes = omega (arith, is.flushes);
  commits = omega (arith, is.commits);
  refused = omega (arith, is.refused);
}
more-acts n t (Commit uuid) is = more-commits (ltb t.commits 255) n t is

pub tally-small : (seed n : ℕ) → IsSmall (tally_of seed n) n
unfolding tally_of
tally-small seed zero = record { writes = omega arith; zeros = omega arith; flushes = omega arith; commits = omega arith; refused = omega arith }
tally-small seed (suc n) = more-acts n (tally_of seed n) (drawn seed n) (tally-small seed n)

pub small-below : (n most : ℕ) (t : Tally) → n ≤ most → IsSmall t n → IsSmall t most
small-below n most t within is = record {
  writes = omega (arith, within, is.writes);
  zeros = omega (arith, within, is.zeros);
  flushes = omega (arith, within, is.flushes);
  commits = omega (arith, within, is.commits);
  refused = omega (arith, within, is.refused);
}

pub no-tally : (seed : ℕ) → no_acts ≡ tally_of seed 0
unfolding tally_of
no-tally seed = refl
