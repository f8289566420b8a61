-- What holds of what an object tells, where it tells it.
use Rattle.std.proofs.Common.{◌≡◌, Option, Some, None, IfSome, refl, subst}

-- what holds of each value holds of the one that is there
pub IfSome-each : {T : Type 0} (o : Option T) {P : T → Type 0} → ((x : T) → o ≡ Some x → P x) → IfSome o P
IfSome-each None all = tt
IfSome-each (Some x) all = all x refl

-- what follows from two facts of one value
pub IfSome-both : {T : Type 0} {P Q R : T → Type 0} (o p : Option T) → p ≡ o → IfSome o P → IfSome p Q → ((x : T) → o ≡ Some x → P x → Q x → R x) → IfSome o R
IfSome-both {T} {P} {Q} {R} None p same one other all = tt
IfSome-both {T} {P} {Q} {R} (Some x) p same one other all = all x refl one (let F : Option T → Type 0 = λ o. IfSome o Q in subst F same other)
