-- What steps add to the history for which an image stands.
use Rattle.std.proofs.Common.{◌≡◌, ℕ, Bool, List, [], ◌∷◌, ◌++◌, refl, sym, ap, ◌∙◌, subst, arith, append_assoc, append-nil}
use Rattle.std.specs.Prelude.{Option, Some, None}
use Rattle.std.specs.Io.KnownBytes.{Keeps}
use Rattle.byte_ports.proofs.Chains.{AppendsFront-none}
use Rattle.block_disk.specs.DiskState.{DiskState}
use Rattle.flat_image.specs.declared.act.Act.{Act}
use Rattle.flat_image.specs.declared.act.Act.TheVariants.{Read}
use Rattle.flat_image.specs.Entries.{entry}
use Rattle.flat_image.specs.History.{History}
use Rattle.image_core.specs.declared.parts.Parts.{Parts}
use Rattle.image_core.specs.Seen.{Seen, StandsFor, IsImage, Goes}
use Rattle.image_commands.specs.ImageSteps.{without_reads, Adds, AreSectors, WritesFront}
use Rattle.image_commands.proofs.WithoutReads.{without-append}
use Rattle.layer_commands.proofs.Pieces.{IfSome-each}

pub adds-nothing : (image : Seen) → Adds [] image image
adds-nothing image = record { stands = λ base history stands. ([], refl, subst (λ (h : History). StandsFor image base h) (sym (append-nil history)) stands) }

pub adds-joined : (first second : History) (p q r : Seen) → Adds first p q → Adds second q r → Adds (first ++ second) p r
adds-joined first second p q r one two = record {
  stands = λ base history stands.
      let a = one.stands base history stands in
      let b = two.stands base (history ++ a.0) a.2 in (
        a.0 ++ b.0,
        without-append a.0 b.0 ∙ ap (λ (l : History). l ++ without_reads b.0) a.1 ∙ ap (λ (l : History). first ++ l) b.1,
        subst (λ (h : History). StandsFor r base h) (append_assoc history a.0 b.0) b.2,
      );
}

-- ---- one step

module _ (tells : Bool) (s s' : DiskState) (f f' : ℕ) (p p' : Parts) where
  abbrev old : Seen
  old = record { tells = tells; state = s; faults = f; parts = p }

  abbrev new : Seen
  new = record { tells = tells; state = s'; faults = f'; parts = p' }

  pub adds-none : Goes old new None → Adds [] old new
  adds-none goes = record {
    stands = λ base history stands. ([], refl, subst (λ (h : History). StandsFor new base h) (sym (append-nil history)) (goes.stands base history 0 stands));
  }

  pub adds-read : (at count : ℕ) → Goes old new (Some (Read at count)) → Adds [] old new
  adds-read at count goes = record { stands = λ base history stands. (entry 0 (Read at count) ∷ [], refl, goes.stands base history 0 stands) }

  pub adds-act : (act : Act) → without_reads (entry 0 act ∷ []) ≡ entry 0 act ∷ [] → Goes old new (Some act) → Adds (entry 0 act ∷ []) old new
  adds-act act stays goes = record { stands = λ base history stands. (entry 0 act ∷ [], stays, goes.stands base history 0 stands) }

  pub standing-after : (acts : History) → IsImage old → Adds acts old new → IsImage new
  standing-after acts standing adds = let a = adds.stands standing.0 standing.1 standing.2 in (standing.0, standing.1 ++ a.0, a.2)

-- ---- sectors

pub no-sectors : (image : Seen) (told : Option (List (List ℕ))) (at : ℕ) → AreSectors image told at 0 []
no-sectors image told at = record {
  long = refl;
  are = λ tells. IfSome-each told (λ files e. λ base history stands over. refl);
}

pub none-written : (image : Seen) (told : Option (List (List ℕ))) (at count : ℕ) (old new : Option (List ℕ)) → Keeps old new → WritesFront image told at count old new
none-written image told at count old new keeps = record {
  part = 0;
  within = omega arith;
  bytes = [];
  sectors = no-sectors image told at;
  front = AppendsFront-none old new [] keeps;
}
