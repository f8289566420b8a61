-- Reads that follow one another.
use Rattle.std.proofs.Common.{◌≡◌, ◌∙◌, ℕ, ◌+◌, ◌≤◌, inl, inr, List, ◌++◌, length, arith, length-append}
use Rattle.std.specs.Prelude.{Option}
use Rattle.std.specs.Io.KnownBytes.{Consumes}
use Rattle.std.proofs.KnownBytes.{Consumes-trans}
use Rattle.nbd_session.specs.declared.served.Served.{Served}
use Rattle.nbd_session.specs.Sessions.{IsCut}

-- some bytes were taken, and of those that were still wanted there were fewer
pub cut_more : (a b c : Option (List ℕ)) (f g h : ℕ) (bytes : List ℕ) (left count size : ℕ) (end : Served)
    → length bytes + left ≡ size → count ≤ left → Consumes a b bytes → g ≡ f → IsCut b c g h count end → IsCut a c f h size end
cut_more a b c f g h bytes left count size end whole few taken calm cut = record {
  bytes = bytes ++ cut.bytes;
  short = omega (arith, length-append bytes cut.bytes, cut.short);
  taken = Consumes-trans a b c bytes cut.bytes taken cut.taken;
  cause = elim cut.cause [ inl (is, at_end, same) ↦ inl (is, at_end, same ∙ calm) | inr (is, rose) ↦ inr (is, omega arith) ];
}
