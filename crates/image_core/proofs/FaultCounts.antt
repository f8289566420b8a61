-- A count of faults that stayed, where the answer is no fault.
use Rattle.std.proofs.Common.{◌≡◌, ℕ, ap, arith}
use Rattle.std.specs.Prelude.{Result, Ok, Err, IfOk, IfErr, IsErrOf}
use Rattle.sector_extent.specs.Causes.{Charges}
use Rattle.image_core.specs.declared.loading.LoadFault.{LoadFault}
use Rattle.image_core.specs.declared.loading.LoadFault.TheVariants as why

pub stays : {S : Type 0} (count : S → ℕ) (old new : S) (fault : Type 0) → count new ≡ count old → (fault → ⊥) → Charges count old new fault
stays count old new fault same other = record {
  later = omega (arith, same);
  failed = λ is. absurd (other is);
  only = λ rose. absurd (omega (arith, same, rose));
}

pub value_no_fault : {T E : Type 0} (value : T) (fault : E) → IsErrOf (Ok value) fault → ⊥
value_no_fault value fault is = cc

pub memory_no_fault : {T : Type 0} → IsErrOf {T = T} (Err why.Memory) why.Failed → ⊥
memory_no_fault is = cc

-- a call behind one that did not fail
pub charges-after : {S : Type 0} (count : S → ℕ) (old mid new : S) (fault : Type 0) → count mid ≡ count old → Charges count mid new fault → Charges count old new fault
charges-after count old mid new fault same charges = record {
  later = omega (arith, same, charges.later);
  failed = λ is. omega (arith, same, charges.failed is);
  only = λ rose. charges.only (omega (arith, same, rose));
}

-- an error is one of a result of any values
as-other : {T U E : Type 0} (e f : E) → IsErrOf {T = U} (Err e) f → IsErrOf {T = T} (Err e) f
as-other e f is = let same : e ≡ f = cc in ap (λ x. Err x) same

pub charges-as : {S T U E : Type 0} (count : S → ℕ) (old new : S) (e f : E) → Charges count old new (IsErrOf {T = T} (Err e) f) → Charges count old new (IsErrOf {T = U} (Err e) f)
charges-as count old new e f charges = record {
  later = charges.later;
  failed = λ is. charges.failed (as-other e f is);
  only = λ rose. as-other e f (charges.only rose);
}

-- what is said of a result's value, or of its fault, follows from what else is said of it
pub ok-all : {T E : Type 0} (r : Result T E) (P Q : T → Type 0) → ((x : T) → P x → Q x) → IfOk r P → IfOk r Q
ok-all (Ok x) P Q then said = then x said
ok-all (Err e) P Q then said = tt

pub ok-both : {T E : Type 0} (r : Result T E) (P Q R : T → Type 0) → ((x : T) → P x → Q x → R x) → IfOk r P → IfOk r Q → IfOk r R
ok-both (Ok x) P Q R then said also = then x said also
ok-both (Err e) P Q R then said also = tt

pub err-all : {T E : Type 0} (r : Result T E) (P Q : E → Type 0) → ((e : E) → P e → Q e) → IfErr r P → IfErr r Q
err-all (Ok x) P Q then said = tt
err-all (Err e) P Q then said = then e said
