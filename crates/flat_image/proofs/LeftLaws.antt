-- What a crash leaves of a history.
use Rattle.std.proofs.Common.{◌≡◌, ℕ, ◌≤◌, false, [], ◌∷◌, ◌++◌, length, refl, sym, ap, ◌∙◌, inl, inr, arith, append_assoc, append-nil, length-append}
use Rattle.std.proofs.lemmas.List.{nil_from_length}
use Rattle.std.proofs.lemmas.List.Elements.{All-nil, All-append, All-cons}
use Rattle.flat_image.specs.declared.act.Act.{Act}
use Rattle.flat_image.specs.declared.act.Act.TheVariants.{Fault}
use Rattle.flat_image.specs.declared.act.Asked.{Asked}
use Rattle.flat_image.specs.declared.act.Asked.TheVariants.{Nothing, Uuid, Sectors}
use Rattle.flat_image.specs.declared.base.Base.{Base}
use Rattle.flat_image.specs.declared.stands.Entry.{Entry}
use Rattle.flat_image.specs.Entries.{entry}
use Rattle.flat_image.specs.History.{History, now, keeps, kept}
use Rattle.flat_image.specs.HistoryLaws.{LeavesNow}
use Rattle.flat_image.specs.Left.{stand, put_top, Kept, ends_blame, Blamed, Advances, Left}
use Rattle.flat_image.proofs.HistoryLaws.{kept-reaches}

abbrev IsUnkept : Entry Act → Type 0
IsUnkept e = keeps e.act ≡ false

abbrev StaysBlamed : Entry Act → Type 0
StaysBlamed e = ends_blame e.act ≡ false

-- all of a history has all that it keeps
pub Kept-all : (h : History) → Kept h h
Kept-all h = record { rest = []; splits = sym (append-nil h); unkept = All-nil IsUnkept }

-- a beginning that has all that is kept has it still where an entry follows that does not keep
pub Kept-entry : (h front : History) (number : ℕ) (act : Act) → keeps act ≡ false → Kept h front → Kept (h ++ entry number act ∷ []) front
Kept-entry h front number act is k = record {
  rest = k.rest ++ entry number act ∷ [];
  splits = ap (λ l. l ++ entry number act ∷ []) k.splits ∙ append_assoc front k.rest (entry number act ∷ []);
  unkept = All-append IsUnkept k.rest (entry number act ∷ []) k.unkept (All-cons IsUnkept (entry number act) [] is (All-nil IsUnkept));
}

-- a failed step is to blame still where an entry follows that does not end it
pub Blamed-entry : (h : History) (asked : Asked) (number : ℕ) (act : Act) → ends_blame act ≡ false → Blamed h asked → Blamed (h ++ entry number act ∷ []) asked
Blamed-entry h asked number act is b = record {
  front = b.front;
  number = b.number;
  rest = b.rest ++ entry number act ∷ [];
  splits = ap (λ l. l ++ entry number act ∷ []) b.splits ∙ append_assoc b.front (entry b.number (Fault asked) ∷ b.rest) (entry number act ∷ []);
  since = All-append StaysBlamed b.rest (entry number act ∷ []) b.since (All-cons StaysBlamed (entry number act) [] is (All-nil StaysBlamed));
}

-- a failed step that was noted last is to blame
pub Blamed-last : (h : History) (asked : Asked) (number : ℕ) → Blamed (h ++ entry number (Fault asked) ∷ []) asked
Blamed-last h asked number = record { front = h; number = number; rest = []; splits = refl; since = All-nil StaysBlamed }

-- a crash may leave what the history made
pub Left-now : (base : Base) (h : History) → Left base h (now base h)
Left-now base h = record { front = h; kept = Kept-all h; is = inl refl }

-- and nothing else where all is kept and no step of a commit failed
pub leaves-now : (base : Base) (h : History) → LeavesNow base h
leaves-now base h all none still b left =
    let rest : left.kept.rest ≡ [] = nil_from_length left.kept.rest (behind left.front left.kept.rest left.kept.splits (((kept-reaches h left.front).0 left.kept).1)) in
    let whole : h ≡ left.front = left.kept.splits ∙ (ap (λ l. left.front ++ l) rest ∙ append-nil left.front) in
    let same : put_top (now base h) (stand (now base left.front)) ≡ now base h = ap (λ (l : History). put_top (now base h) (stand (now base l))) (sym whole) in
    elim left.is [
      | inl is ↦ is ∙ same
      | inr other ↦ absurd (blameless other.0 other.1 other.2)
    ]
  where
    behind : (front rest : History) → h ≡ front ++ rest → kept h ≤ length front → length rest ≡ 0
    behind front rest splits reaches = omega (arith, ap (length {A = Entry Act}) splits, length-append front rest, all)

    blameless : (asked : Asked) → Blamed h asked → Advances (put_top (now base h) (stand (now base left.front))) asked b → ⊥
    blameless Nothing blamed advances = advances
    blameless (Uuid uuid) blamed advances = none uuid blamed
    blameless (Sectors sectors) blamed advances = still sectors blamed
