-- Counts of faults along a chain of calls.
use Rattle.std.proofs.Common.{◌≡◌, ℕ, ap, arith}
use Rattle.std.specs.Prelude.{Ok, Err}
use Rattle.std.specs.Result.{IsErrOf}
use Rattle.sector_extent.specs.Causes.{Charges}

-- nothing rose, and no such fault is answered
pub stays : {S : Type 0} (count : S → ℕ) (old new : S) (fault : Type 0) → count new ≡ count old → (fault → ⊥) → Charges count old new fault
stays count old new fault same other = record {
  later = omega (arith, same);
  failed = λ is. absurd (other is);
  only = λ rose. absurd (omega (arith, same, rose));
}

-- the calls before this one were calm
pub charges_on : {S : Type 0} (count : S → ℕ) (start old new : S) (fault : Type 0) → count old ≡ count start → Charges count old new fault → Charges count start new fault
charges_on count start old new fault same charges = record {
  later = omega (arith, same, charges.later);
  failed = λ is. let rose = charges.failed is in omega (arith, same, rose);
  only = λ rose. charges.only (omega (arith, same, rose));
}

-- the answer is told as another
pub charges_as : {S : Type 0} (count : S → ℕ) (old new : S) (fault told : Type 0) → (fault → told) → (told → fault) → Charges count old new fault → Charges count old new told
charges_as count old new fault told to from charges = record {
  later = charges.later;
  failed = λ is. charges.failed (from is);
  only = λ rose. to (charges.only rose);
}

-- a value is no fault
pub no_fault : {T E : Type 0} (value : T) (fault : E) → IsErrOf (Ok value) fault → ⊥
no_fault value fault is = cc

pub stays_ok : {S T E : Type 0} (count : S → ℕ) (old new : S) (value : T) (fault : E) → count new ≡ count old → Charges count old new (IsErrOf (Ok value) fault)
stays_ok count old new value fault same = stays count old new (IsErrOf (Ok value) fault) same (no_fault value fault)

err_same : {T U E : Type 0} (e f : E) → IsErrOf {T = T} {E = E} (Err e) f → IsErrOf {T = U} {E = E} (Err e) f
err_same e f is = let same : e ≡ f = cc in ap (λ y. Err y) same

-- an error is handed on, of a call after calm ones
pub charges_err : {S T U E : Type 0} (count : S → ℕ) (start old new : S) (e f : E) → count old ≡ count start
    → Charges count old new (IsErrOf {T = T} {E = E} (Err e) f) → Charges count start new (IsErrOf {T = U} {E = E} (Err e) f)
charges_err {S = S} {T = T} {U = U} {E = E} count start old new e f same charges =
    charges_as count start new (IsErrOf {T = T} {E = E} (Err e) f) (IsErrOf {T = U} {E = E} (Err e) f) (err_same {T = T} {U = U} {E = E} e f) (err_same {T = U} {U = T} {E = E} e f)
    (charges_on count start old new (IsErrOf {T = T} {E = E} (Err e) f) same charges)

-- the same count, seen of another value
pub charges_at : {S T : Type 0} (count : S → ℕ) (old new : S) (other : T → ℕ) (before now : T) (fault : Type 0) → other before ≡ count old → other now ≡ count new
    → Charges count old new fault → Charges other before now fault
charges_at count old new other before now fault first last charges = record {
  later = omega (arith, first, last, charges.later);
  failed = λ is. let rose = charges.failed is in omega (arith, first, last, rose);
  only = λ rose. charges.only (omega (arith, first, last, rose));
}
