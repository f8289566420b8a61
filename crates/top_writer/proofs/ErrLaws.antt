-- The answer of a call that was refused.
use Rattle.std.proofs.Common.{◌≡◌, sym, subst}
use Rattle.std.specs.Prelude.{Result, Ok, Err, IfErr}
use Rattle.std.specs.Result.{IsErrAnd}

-- what holds of the one fault holds of the answer
pub if_err_is : {T E : Type 0} (result : Result T E) (fault : E) (P : E → Type 0) → IsErrAnd result (λ e. e ≡ fault) → P fault → IfErr result P
if_err_is (Ok value) fault P is holds = tt
if_err_is (Err e) fault P is holds = subst P (sym is) holds
