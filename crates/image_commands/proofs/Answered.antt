-- What holds of an answer, from two things that hold of it.
use Rattle.std.proofs.Common.{◌≡◌, ◌≢◌, ℕ, sym, ap, ◌∙◌, subst, arith}
use Rattle.std.specs.Result.{IsErrOf}
use Rattle.sector_extent.specs.Causes.{Charges}
use Rattle.std.specs.Prelude.{Result, Ok, Err, OnOk, OnErr, IfOk, IfErr}
use Rattle.layer_commands.specs.declared.refusal.Refusal.{Refusal}
use Rattle.layer_commands.proofs.Charged.{charges_as}
use Rattle.image_commands.specs.declared.refusal.ImageRefusal.{ImageRefusal}
use Rattle.image_commands.specs.declared.refusal.ImageRefusal.TheVariants.{Other}
use Rattle.tool_setup.specs.declared.command.Command.{Command}
use Rattle.layer_commands.specs.Ports.{Ports}
use Rattle.layer_commands.specs.declared.refusal.Refusal.TheVariants as refused
use Rattle.image_commands.specs.Images.{DiskPort}
use Rattle.image_commands.specs.ImageCauses.{CommandCause}
use Rattle.image_commands.specs.ImageSteps.{told_as}

pub ok-both : {T E : Type 0} (r : Result T E) (P Q R : Type 0) → (P → Q → R) → OnOk r P → OnOk r Q → OnOk r R
ok-both (Ok value) P Q R f p q = f p q
ok-both (Err fault) P Q R f p q = tt

pub err-both : {T E : Type 0} (r : Result T E) (P : Type 0) (Q R : E → Type 0) → ((fault : E) → P → Q fault → R fault) → OnErr r P → IfErr r Q → IfErr r R
err-both (Ok value) P Q R f p q = tt
err-both (Err fault) P Q R f p q = f fault p q

-- the answer of a call on an image, as that of the command
pub ok-told : (r : Result (Unit {0}) Refusal) (P : Type 0) → OnOk r P → OnOk (told_as r) P
ok-told (Ok value) P p = p
ok-told (Err refusal) P p = tt

pub err-told : (r : Result (Unit {0}) Refusal) (P : ImageRefusal → Type 0) → IfErr r (λ refusal. P (Other refusal)) → IfErr (told_as r) P
err-told (Ok value) P p = tt
err-told (Err refusal) P p = p

pub told-to : (r : Result (Unit {0}) Refusal) (refusal : Refusal) → IsErrOf r refusal → IsErrOf (told_as r) (Other refusal)
told-to (Ok value) refusal is = absurd (cc)
told-to (Err other) refusal is = let same : other ≡ refusal = cc in ap (λ (x : Refusal). Err (Other x)) same

pub told-from : (r : Result (Unit {0}) Refusal) (refusal : Refusal) → IsErrOf (told_as r) (Other refusal) → IsErrOf r refusal
told-from (Ok value) refusal is = absurd (cc)
told-from (Err other) refusal is = let same : other ≡ refusal = cc in ap (λ (x : Refusal). Err x) same

-- a count that rises just for one answer rises just for it as the command's
pub told-charges : {S : Type 0} (count : S → ℕ) (old new : S) (r : Result (Unit {0}) Refusal) (refusal : Refusal) → Charges count old new (IsErrOf r refusal)
    → Charges count old new (IsErrOf (told_as r) (Other refusal))
told-charges count old new r refusal charges =
    charges_as count old new (IsErrOf r refusal) (IsErrOf (told_as r) (Other refusal)) (told-to r refusal) (told-from r refusal) charges

-- an answer that is refused as nothing else
pub told-none : (r : Result (Unit {0}) Refusal) (only refusal : Refusal) → IfErr r (λ x. x ≡ only) → refusal ≢ only → IsErrOf (told_as r) (Other refusal) → ⊥
told-none (Ok value) only refusal is other told = cc
told-none (Err x) only refusal is other told = let same : x ≡ refusal = cc in other (sym same ∙ is)

-- a source whose count of faults stood still is not the cause
pub unfed : (command : Command) (before now : Ports) (disk disk_now : DiskPort) (r : Result (Unit {0}) ImageRefusal) → now.source_faults ≡ before.source_faults
    → IfErr r (CommandCause command before now disk disk_now) → IsErrOf r (Other refused.SourceFault) → ⊥
unfed command before now disk disk_now (Ok value) still cause is = cc
unfed command before now disk disk_now (Err x) still cause is =
    let same : x ≡ Other refused.SourceFault = cc in
    let rose = (subst (λ (y : ImageRefusal). CommandCause command before now disk disk_now y) same cause).1 in
    omega (arith, still, rose)

pub ok-from : {T E : Type 0} (r : Result T E) (P Q : Type 0) → (P → Q) → OnOk r P → OnOk r Q
ok-from (Ok value) P Q f p = f p
ok-from (Err fault) P Q f p = tt

pub value-from : {T E : Type 0} (r : Result T E) (P Q : T → Type 0) → ((value : T) → P value → Q value) → IfOk r P → IfOk r Q
value-from (Ok value) P Q f p = f value p
value-from (Err fault) P Q f p = tt

-- a refusal is handed on as another call's
pub err-same : {T U E : Type 0} (e f : E) → IsErrOf {T = T} {E = E} (Err e) f → IsErrOf {T = U} {E = E} (Err e) f
err-same e f is = let same : e ≡ f = cc in ap (λ y. Err y) same

-- the disk's fault is not that there are too many layers
pub not-both : {T : Type 0} (refusal : Refusal) → refusal ≡ refused.DiskFault → IsErrOf {T = T} (Err refusal) refused.TooManyLayers → ⊥
not-both refusal is many = let same : refusal ≡ refused.TooManyLayers = cc in let unlike : refused.DiskFault ≡ refused.TooManyLayers = sym is ∙ same in cc

pub not-many : {T : Type 0} (r : Result T Refusal) → IfErr r (λ refusal. refusal ≡ refused.DiskFault) → IsErrOf r refused.TooManyLayers → ⊥
not-many (Ok value) is many = cc
not-many (Err refusal) is many = not-both refusal is many
