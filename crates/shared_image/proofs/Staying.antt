-- Committed files stay.
use Rattle.std.proofs.Common.{◌≡◌, ℕ, ◌+◌, ◌<◌, List, [], ◌∷◌, ◌++◌, length, refl, sym, ap, subst, ◌∙◌, arith, append_assoc, length-append}
use Rattle.std.specs.Prelude.{slice_index_or}
use Rattle.std.proofs.lemmas.List.{append-nil, get_or_append_left}
use Rattle.flat_image.specs.declared.act.Act.{Act}
use Rattle.flat_image.specs.declared.act.Act.TheVariants.{Read, Write, Zero, Flush, Freeze, Seal, Grow, Fault}
use Rattle.flat_image.specs.declared.base.Base.{Base}
use Rattle.flat_image.specs.Entries.{StartsWith}
use Rattle.flat_image.specs.History.{History, now, step, committed, sealed_over}
use Rattle.flat_image.proofs.HistoryLaws.{now-append}

abbrev Files : Type 0
Files = List (List ℕ)

same : (files : Files) → StartsWith files files
same files = record { rest = []; is = sym (append-nil files) }

pub starts-then : (a b c : Files) → StartsWith b a → StartsWith c b → StartsWith c a
starts-then a b c one two = record {
  rest = one.rest ++ two.rest;
  is = two.is ∙ (ap (λ (l : Files). l ++ two.rest) one.is ∙ append_assoc a one.rest two.rest);
}

step-grows : (b : Base) (act : Act) → StartsWith (step b act).done b.done
step-grows b (Read at count) = same b.done
step-grows b (Write at bytes) = same b.done
step-grows b (Zero at count) = same b.done
step-grows b Flush = same b.done
step-grows b (Freeze uuid) = same b.done
step-grows b (Seal uuid) = record { rest = sealed_over (b.lowers ++ b.done) b.frozen; is = refl }
step-grows b (Grow sectors) = same b.done
step-grows b (Fault asked) = same b.done

grows : (b : Base) (more : History) → StartsWith (now b more).done b.done
grows b [] = same b.done
grows b (e ∷ more) = starts-then b.done (step b e.act).done (now (step b e.act) more).done (step-grows b e.act) (grows (step b e.act) more)

pub committed-stays : (b : Base) (h more : History) → StartsWith (committed b (h ++ more)) (committed b h)
committed-stays b h more = subst (λ (x : Base). StartsWith x.done (now b h).done) (sym (now-append b h more)) (grows (now b h) more)

-- what was committed by a beginning of a history is a file of the whole, and the same one
later-files : (b : Base) (old new : History) → StartsWith new old → StartsWith (committed b new) (committed b old)
later-files b old new later = subst (λ (h : History). StartsWith (committed b h) (committed b old)) (sym later.is) (committed-stays b old later.rest)

pub below-later : (b : Base) (old new : History) (epoch : ℕ) → StartsWith new old → epoch < length (committed b old) → epoch < length (committed b new)
below-later b old new epoch later below =
    let s = later-files b old new later in
    let long : length (committed b new) ≡ length (committed b old) + length s.rest =
    ap (λ (l : Files). length l) s.is ∙ length-append (committed b old) s.rest in
    omega (arith, below, long)

pub file-later : (b : Base) (old new : History) (epoch : ℕ) → StartsWith new old → epoch < length (committed b old)
    → slice_index_or (committed b new) epoch [] ≡ slice_index_or (committed b old) epoch []
file-later b old new epoch later below =
    let s = later-files b old new later in
    ap (λ (l : Files). slice_index_or l epoch []) s.is ∙ get_or_append_left (committed b old) s.rest [] epoch below
