-- When a port's count of faults rises, by the answers to a request.
use Rattle.std.proofs.Common.{◌≡◌, ℕ, List, [], refl, arith}
use Rattle.std.specs.Prelude.{Ok, Err}
use Rattle.sector_extent.specs.CauseLaws.{calm_value}
use Rattle.flat_image.specs.declared.port_fault.PortFault.{PortFault}
use Rattle.flat_image.specs.declared.port_fault.PortFault.TheVariants.{Worn, Full, Memory, Failed}
use Rattle.flat_image.specs.Ports.{PortState, fault_count, ChargesPort}
use Rattle.nbd_session.specs.declared.errno.Errno.TheVariants.{InputOutput}
use Rattle.nbd_session.specs.Replies.{Answer, Good, Bad, errno_of}
use Rattle.nbd_session.specs.Fits.{ChargesAnswer}

-- nothing was put to the port
pub charges_none : (p : PortState) (answer : Answer) → (answer ≡ Bad InputOutput → ⊥) → ChargesAnswer p p answer
charges_none p answer other = record { later = omega arith; failed = λ is. absurd (other is); only = λ rose. absurd (omega arith) }

-- a call was refused
pub charges_refused : {T : Type 0} (p q : PortState) (fault : PortFault) → ChargesPort {T = T} p q (Err fault) → ChargesAnswer p q (Bad (errno_of fault))
charges_refused p q Worn h = record { later = h.later; failed = λ is. absurd cc; only = λ rose. let is = h.only rose in absurd (cc is) }
charges_refused p q (Full rows sectors) h = record { later = h.later; failed = λ is. absurd cc; only = λ rose. let is = h.only rose in absurd (cc is) }
charges_refused p q Memory h = record { later = h.later; failed = λ is. absurd cc; only = λ rose. let is = h.only rose in absurd (cc is) }
charges_refused p q Failed h = record { later = h.later; failed = λ is. h.failed refl; only = λ rose. refl }

-- a call was made
pub charges_made : {T : Type 0} (p q : PortState) (value : T) (bytes : List ℕ) → ChargesPort p q (Ok value) → ChargesAnswer p q (Good bytes)
charges_made p q value bytes h = record { later = h.later; failed = λ is. absurd cc; only = λ rose. let is = h.only rose in absurd (cc is) }

-- a call was made, and another one behind it
pub charges_then : {T : Type 0} (p q r : PortState) (value : T) (answer : Answer) → ChargesPort p q (Ok value) → ChargesAnswer q r answer → ChargesAnswer p r answer
charges_then p q r value answer first second =
    let same : q.faults ≡ p.faults = calm_value fault_count p q value Failed first in
    record {
      later = omega (arith, same, second.later);
      failed = λ is. omega (arith, same, second.failed is);
      only = λ rose. second.only (omega (arith, same, rose));
    }

-- an answer with data in place of one without
pub charges_data : (p q : PortState) (bytes : List ℕ) → ChargesAnswer p q (Good []) → ChargesAnswer p q (Good bytes)
charges_data p q bytes h = record { later = h.later; failed = λ is. absurd cc; only = λ rose. let is = h.only rose in absurd (cc is) }
