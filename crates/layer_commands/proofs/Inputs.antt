-- Reading piece after piece.
use Rattle.std.proofs.Common.{◌≡◌, ℕ, ◌+◌, ◌%◌, ◌<◌, ◌≤◌, List, [], ◌++◌, length, refl, sym, ap, ◌∙◌, subst, arith, length-append, inl, inr}
use Rattle.std.specs.Prelude.{Option, Some, None, IfSome, ◌⊎◌}
use Rattle.std.specs.Io.KnownBytes.{Consumes, IsAtEnd}
use Rattle.std.proofs.KnownBytes.{Consumes-nil, Consumes-trans, Consumes-whole}
use Rattle.layer_commands.specs.declared.refusal.Refusal.{Refusal}
use Rattle.layer_commands.specs.declared.refusal.Refusal.TheVariants as refused
use Rattle.layer_commands.specs.Input.{IsInputRefusal, ReadsPiece, TakesSectors}
use Rattle.layer_commands.specs.Ports.{TakesAtMost}

pub none_read : (a : Option (List ℕ)) (bytes : List ℕ) → bytes ≡ [] → Consumes a a bytes
none_read a bytes e = subst (Consumes a a) (sym e) (Consumes-nil a)

pub read_step : (a b c : Option (List ℕ)) (before now : List ℕ) (room count : ℕ) → Consumes a b before → ReadsPiece b c before now room count → Consumes a c now
read_step a b c before now room count p r = subst (Consumes a c) (sym r.grown) (Consumes-trans a b c before r.taken p r.consumed)

pub read_size : (b c : Option (List ℕ)) (before now : List ℕ) (room count : ℕ) → ReadsPiece b c before now room count → length now ≡ length before + count
read_size b c before now room count r = ap (length {A = ℕ}) r.grown ∙ length-append before r.taken ∙ ap (λ (k : ℕ). length before + k) r.size

pub read_whole : (a b : Option (List ℕ)) (bytes : List ℕ) → Consumes a b bytes → IsAtEnd b → IfSome a (λ file. bytes ≡ file)
read_whole a b bytes p end = Consumes-whole a b bytes (λ file. bytes ≡ file) p end refl

pub too_long : (a b : Option (List ℕ)) (bytes : List ℕ) (most : ℕ) → Consumes a b bytes → most < length bytes → IfSome a (λ file. most < length file)
too_long None b bytes most p long = tt
too_long (Some file) None bytes most p long = absurd p
too_long (Some file) (Some rest) bytes most p long = omega (arith, long, ap (length {A = ℕ}) p, length-append bytes rest)

pub takes_more : (a b c : Option (List ℕ)) (bytes : List ℕ) (most room : ℕ) → Consumes a b bytes → TakesAtMost b c room → length bytes + room ≤ most → TakesAtMost a c most
takes_more a b c bytes most room p (more, q, few) within =
    (bytes ++ more, Consumes-trans a b c bytes more p q, omega (arith, few, within, length-append bytes more))

-- a piece was not read
pub piece_refusal : (a b c : Option (List ℕ)) (bytes : List ℕ) (most : ℕ) (refusal : Refusal) → Consumes a b bytes → length bytes ≤ most → length bytes % 512 ≡ 0
    → (refusal ≡ refused.SourceFault) ⊎ (refusal ≡ refused.Memory) → (refusal ≡ refused.Memory → c ≡ b) → IsInputRefusal a c most refusal
piece_refusal a b c bytes most refusal p short whole (inl is) same = subst (λ (r : Refusal). IsInputRefusal a c most r) (sym is) tt
piece_refusal a b c bytes most refusal p short whole (inr is) same =
    let takes : TakesSectors a c most = record {
      bytes = bytes;
      taken = subst (λ (o : Option (List ℕ)). Consumes a o bytes) (sym (same is)) p;
      short = short;
      whole = whole;
    } in
    subst (λ (r : Refusal). IsInputRefusal a c most r) (sym is) takes
