-- What is said of the one file of a shelf is said of the file, where the disk tells.
use Rattle.std.proofs.Common.{◌≡◌, ℕ, List, Bool, true, false, IsTrue}
use Rattle.std.specs.Prelude.{Result, Ok, Err, IfErr, IfSome}
use Rattle.layer_shelf.specs.Shelves.{file_at}
use Rattle.disk_layer.specs.OneFile.{told_file}

pub err-told : {T E : Type 0} (r : Result T E) (tells : Bool) (file : List ℕ) (P : List ℕ → E → Type 0)
    → IfErr r (λ x. IfSome (told_file tells file) (λ files. P (file_at files 0) x)) → IfErr r (λ x. IsTrue tells → P file x)
err-told (Ok value) tells file P said = tt
err-told (Err fault) true file P said = λ told. said
err-told (Err fault) false file P said = λ told. absurd (let no : false ≡ true = told in cc)
