-- What follows where a count of faults rises just for one answer.
use Rattle.std.specs.Prelude.{◌≡◌, ℕ, ◌<◌, ◌≤◌, ◌⊎◌, true, false, Ok}
use Rattle.std.specs.Result.{IsErrOf}
use Rattle.std.proofs.Common.{arith, ⊎_elim}
use Rattle.sector_extent.specs.Causes.{Charges}

rose_or_not : (a b : ℕ) → a ≤ b → (a < b) ⊎ (b ≡ a)
rose_or_not a b le = grind arith

-- where it is not the answer, the count is as it was
pub calm : {S : Type 0} (count : S → ℕ) (old new : S) (fault : Type 0) → Charges count old new fault → (fault → ⊥) → count new ≡ count old
calm count old new fault charges other = ⊎_elim (λ rose. absurd (other (charges.only rose))) (λ same. same) (rose_or_not (count old) (count new) charges.later)

not_fault : {T E : Type 0} (value : T) (fault : E) → IsErrOf (Ok value) fault → ⊥
not_fault value fault is = cc

not_true : false ≡ true → ⊥
not_true is = cc

-- so it is where a value is answered: of a call that has more faults than that one, and of one that has no other
pub calm_value : {S T E : Type 0} (count : S → ℕ) (old new : S) (value : T) (fault : E) → Charges count old new (IsErrOf (Ok value) fault) → count new ≡ count old
calm_value count old new value fault charges = calm count old new (IsErrOf (Ok value) fault) charges (not_fault value fault)

pub calm_ok : {S : Type 0} (count : S → ℕ) (old new : S) → Charges count old new (false ≡ true) → count new ≡ count old
calm_ok count old new charges = calm count old new (false ≡ true) charges not_true
