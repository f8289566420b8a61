-- What so many acts that were drawn make of the new image.
use Rattle.std.proofs.Common.{◌≡◌, ℕ, zero, suc, ◌+◌, ◌-◌, ◌*◌, ◌<◌, ◌≤◌, Bool, true, false, List, [], ◌∷◌, ◌++◌, length, map, replicate, refl, sym, ap, ◌∙◌, subst, arith, inr, append-nil, append_assoc, length-append}
use Rattle.std.specs.Prelude.{All, None, if◌then◌else◌, ltb}
use Rattle.std.proofs.lemmas.List.{length-map, length-replicate, map-append}
use Rattle.std.proofs.lemmas.List.Elements.{All-nil, All-cons, All-append, All-weaker, All-contains}
use Rattle.flat_image.specs.declared.act.Act.{Act}
use Rattle.flat_image.specs.declared.act.Act.TheVariants as act
use Rattle.flat_image.specs.declared.base.Base.{Base}
use Rattle.flat_image.specs.declared.stands.Entry.{Entry}
use Rattle.flat_image.specs.Base.{IsBase, HasFewStretches, pending_of, top_uuid, top_size}
use Rattle.flat_image.specs.CanonicalFiles.{file_of}
use Rattle.flat_image.specs.Entries.{entry, StartsWith}
use Rattle.flat_image.specs.Frozen.{Frozen}
use Rattle.flat_image.specs.History.{History, now, step, Proper}
use Rattle.flat_image.specs.LayerReading.{uuid_in}
use Rattle.flat_image.specs.Sectors.{sector_count}
use Rattle.flat_image.proofs.HistoryLaws.{now-append, proper-front, proper-rest, base-stays}
use Rattle.flat_image.proofs.LayerLaws.{uuid_in-IsLayer}
use Rattle.flat_image.proofs.SealedSheets.{seals-layer}
use Rattle.image_core.specs.Committing.{uuids_in}
use Rattle.image_core.specs.Parts.{parts_view}
use Rattle.image_core.specs.Seen.{Seen, StandsFor}
use Rattle.image_commands.specs.Images.{entries}
use Rattle.image_commands.specs.ImageSteps.{Adds, without_reads}
use Rattle.image_commands.proofs.WithoutReads.{now-without}
use Rattle.image_commands.proofs.ImageAdds.{adds-joined}
use Rattle.image_commands.proofs.ImageLaws.{stands-for}
use Rattle.layer_commands.specs.declared.refusal.Refusal.{Refusal}
use Rattle.image_commands.proofs.CommitSteps.{pending-now, uuids-now}
use Rattle.image_make.specs.declared.draws.Drawn.{Drawn}
use Rattle.image_make.specs.declared.draws.Drawn.TheVariants.{Flush, Zero, Write, Commit}
use Rattle.image_make.specs.declared.tally.Tally.{Tally}
use Rattle.image_make.specs.Draws.{uuid_of, drawn}
use Rattle.image_make.specs.Acts.{acts_with, made_acts, tally_of, with_act}
use Rattle.image_make.specs.Making.{made_sectors, new_image, AsksIn, AsksOf}
use Rattle.image_make.specs.Steps.{IsUnlike, MayAct, StopsIn}
use Rattle.image_make.proofs.DrawLaws.{IsNth, nth-drawn, is-drawn, uuid-once}
use Rattle.image_make.proofs.StepLaws.{stops-joined}

pub sectors-are : made_sectors ≡ 4096
unfolding made_sectors
sectors-are = refl

-- the uuid is that of an act before
abbrev IsEarlier : ℕ → List ℕ → Type 0
IsEarlier n uuid = (k : ℕ) × (k < n) × (uuid ≡ uuid_of k)

later : (n : ℕ) (uuid : List ℕ) → IsEarlier n uuid → IsEarlier (suc n) uuid
later n uuid is = (is.0, omega (arith, is.1), is.2)

-- what n acts make, of which so many were commits
pub record IsMadeBy (n commits : ℕ) (b : Base) : Type 0 where
  pub sectors : b.sectors ≡ made_sectors
  pub lowers : b.lowers ≡ []
  pub frozen : b.frozen ≡ None
  pub rows : b.rows ≤ n
  pub filled : b.filled ≤ 8 * n
  pub layers : length b.done ≡ commits
  pub uuids : All (IsEarlier n) (map uuid_in b.done)

count-written : (count byte : ℕ) → sector_count (replicate (512 * count) byte) ≡ count
count-written count byte = let e = length-replicate {A = ℕ} (512 * count) byte in omega (arith, e)

abbrev frozen-as : Base → List ℕ → Frozen
frozen-as b uuid = record { uuid = uuid; sheet = b.top }

-- the file that a commit of it adds
abbrev added-file : Base → List ℕ → List ℕ
added-file b uuid = file_of uuid (top_uuid (b.lowers ++ b.done)) (top_size (length b.top) (b.lowers ++ b.done)) b.top

commit-made : (done : Bool) (n : ℕ) (t : Tally) (uuid : List ℕ) (b : Base) → uuid ≡ uuid_of n → IsBase b → HasFewStretches b
    → Proper b (entries (if done then act.Freeze uuid ∷ act.Seal uuid ∷ [] else [])) → IsMadeBy n t.commits b
    → IsMadeBy (suc n) (if done then record t { commits = t.commits + 1 } else record t { refused = t.refused + 1 }).commits
    (now b (entries (if done then act.Freeze uuid ∷ act.Seal uuid ∷ [] else [])))
commit-made false n t uuid b is base few proper made = record {
  sectors = made.sectors;
  lowers = made.lowers;
  frozen = made.frozen;
  rows = omega (arith, made.rows);
  filled = omega (arith, made.filled);
  layers = made.layers;
  uuids = All-weaker (IsEarlier n) (IsEarlier (suc n)) (later n) (map uuid_in b.done) made.uuids;
}
commit-made true n t uuid b is base few proper made =
    let frozen : Base = step b (act.Freeze uuid) in
    let good = base-stays b (entry 0 (act.Freeze uuid) ∷ []) base few (proper.0, proper.1, proper.2.0) in
    let named : uuid_in (added-file b uuid) ≡ uuid = uuid_in-IsLayer frozen.sectors uuid b.top (added-file b uuid) (seals-layer frozen good.0 good.1 (frozen-as b uuid) refl) in
    let own : IsEarlier (suc n) (uuid_in (added-file b uuid)) = (n, omega arith, named ∙ is) in record {
      sectors = made.sectors;
      lowers = made.lowers;
      frozen = refl;
      rows = omega arith;
      filled = omega arith;
      layers = let e = length-append b.done (added-file b uuid ∷ []) in let l = made.layers in omega (arith, e, l);
      uuids = subst (λ (list : List (List ℕ)). All (IsEarlier (suc n)) list) (sym (map-append uuid_in b.done (added-file b uuid ∷ [])))
          (All-append (IsEarlier (suc n)) (map uuid_in b.done) (uuid_in (added-file b uuid) ∷ [])
          (All-weaker (IsEarlier n) (IsEarlier (suc n)) (later n) (map uuid_in b.done) made.uuids)
          (All-cons (IsEarlier (suc n)) (uuid_in (added-file b uuid)) [] own (All-nil (IsEarlier (suc n)))));
    }

act-made : (n : ℕ) (t : Tally) (d : Drawn) (b : Base) → IsNth n d → IsBase b → HasFewStretches b → Proper b (entries (acts_with t.commits d)) → IsMadeBy n t.commits b
    → IsMadeBy (suc n) (with_act t d).commits (now b (entries (acts_with t.commits d)))
act-made n t Flush b is base few proper made = record {
  sectors = made.sectors;
  lowers = made.lowers;
  frozen = made.frozen;
  rows = omega (arith, made.rows);
  filled = omega (arith, made.filled);
  layers = made.layers;
  uuids = All-weaker (IsEarlier n) (IsEarlier (suc n)) (later n) (map uuid_in b.done) made.uuids;
}
act-made n t (Zero at count) b is base few proper made = record {
  sectors = made.sectors;
  lowers = made.lowers;
  frozen = made.frozen;
  rows = omega (arith, made.rows, is.few);
  filled = omega (arith, made.filled);
  layers = made.layers;
  uuids = All-weaker (IsEarlier n) (IsEarlier (suc n)) (later n) (map uuid_in b.done) made.uuids;
}
act-made n t (Write at count byte) b is base few proper made =
    let size = count-written count byte in record {
      sectors = made.sectors;
      lowers = made.lowers;
      frozen = made.frozen;
      rows = omega (arith, made.rows, is.few, size);
      filled = omega (arith, made.filled, is.few, size);
      layers = made.layers;
      uuids = All-weaker (IsEarlier n) (IsEarlier (suc n)) (later n) (map uuid_in b.done) made.uuids;
    }
act-made n t (Commit uuid) b is base few proper made = commit-made (ltb t.commits 255) n t uuid b is base few proper made

abbrev pub as_entry : Act → Entry Act
as_entry a = entry 0 a

pub acts-more : (seed n : ℕ) → entries (made_acts seed (suc n)) ≡ entries (made_acts seed n) ++ entries (acts_with (tally_of seed n).commits (drawn seed n))
unfolding made_acts
acts-more seed n = map-append as_entry (made_acts seed n) (acts_with (tally_of seed n).commits (drawn seed n))

pub tally-more : (seed n : ℕ) → tally_of seed (suc n) ≡ with_act (tally_of seed n) (drawn seed n)
unfolding tally_of
tally-more seed n = refl

pub no-acts : (seed : ℕ) → made_acts seed 0 ≡ []
unfolding made_acts
no-acts seed = refl

pub made-by : (seed faults n : ℕ) → IsBase (new_image faults) → HasFewStretches (new_image faults) → Proper (new_image faults) (entries (made_acts seed n))
    → IsMadeBy n (tally_of seed n).commits (now (new_image faults) (entries (made_acts seed n)))
unfolding made_acts tally_of
made-by seed faults zero base few proper = record {
  sectors = refl;
  lowers = refl;
  frozen = refl;
  rows = omega arith;
  filled = omega arith;
  layers = refl;
  uuids = All-nil (IsEarlier 0);
}
made-by seed faults (suc n) base few proper =
    let b : Base = new_image faults in
    let h : History = entries (made_acts seed n) in
    let m : History = entries (acts_with (tally_of seed n).commits (drawn seed n)) in
    let split : entries (made_acts seed n ++ acts_with (tally_of seed n).commits (drawn seed n)) ≡ h ++ m =
    map-append as_entry (made_acts seed n) (acts_with (tally_of seed n).commits (drawn seed n)) in
    let all : Proper b (h ++ m) = subst (λ (l : History). Proper b l) split proper in
    let front : Proper b h = proper-front b h m all in
    let good = base-stays b h base few front in
    subst (λ (c : Base). IsMadeBy (suc n) (with_act (tally_of seed n) (drawn seed n)).commits c) (sym (ap (λ (l : History). now b l) split ∙ now-append b h m))
    (act-made n (tally_of seed n) (drawn seed n) (now b h) (nth-drawn seed n) good.0 good.1 (proper-rest b h m all) (made-by seed faults n base few front))

-- reads may always be left out
proper-act : (number : ℕ) (a : Act) (es : History) (b : Base) → ((c : Base) → Proper c es → Proper c (without_reads es)) → Proper b (entry number a ∷ es)
    → Proper b (without_reads (entry number a ∷ es))
proper-act number (act.Read at count) es b rest p = rest b p.2
proper-act number (act.Write at bytes) es b rest p = (p.0, p.1, rest (step b (act.Write at bytes)) p.2)
proper-act number (act.Zero at count) es b rest p = (p.0, p.1, rest (step b (act.Zero at count)) p.2)
proper-act number act.Flush es b rest p = (p.0, p.1, rest (step b act.Flush) p.2)
proper-act number (act.Freeze uuid) es b rest p = (p.0, p.1, rest (step b (act.Freeze uuid)) p.2)
proper-act number (act.Seal uuid) es b rest p = (p.0, p.1, rest (step b (act.Seal uuid)) p.2)
proper-act number (act.Grow sectors) es b rest p = (p.0, p.1, rest (step b (act.Grow sectors)) p.2)
proper-act number (act.Fault asked) es b rest p = (p.0, p.1, rest (step b (act.Fault asked)) p.2)

pub proper-without : (h : History) (b : Base) → Proper b h → Proper b (without_reads h)
proper-without [] b p = p
proper-without (e ∷ es) b p = proper-act e.number e.act es b (proper-without es) p

unlike-earlier : (n : ℕ) (uuids : List (List ℕ)) (d : Drawn) → n < 100000 → All (IsEarlier n) uuids → IsNth n d → IsUnlike uuids d
unlike-earlier n uuids Flush few all is = tt
unlike-earlier n uuids (Zero at count) few all is = tt
unlike-earlier n uuids (Write at count byte) few all is = tt
unlike-earlier n uuids (Commit uuid) few all is = λ found.
    let k = All-contains (IsEarlier n) uuids uuid all found in
    uuid-once k.0 n k.1 few (sym is ∙ k.2)

-- the acts of so many are a beginning of those of more
pub begins-more : (seed n more : ℕ) → StartsWith (entries (made_acts seed (n + more))) (entries (made_acts seed n))
begins-more seed n zero = record { rest = []; is = ap (λ (k : ℕ). entries (made_acts seed k)) (let e : n + 0 ≡ n = omega arith in e) ∙ sym (append-nil (entries (made_acts seed n))) }
begins-more seed n (suc more) =
    let before : StartsWith (entries (made_acts seed (n + more))) (entries (made_acts seed n)) = begins-more seed n more in
    let last : History = entries (acts_with (tally_of seed (n + more)).commits (drawn seed (n + more))) in record {
      rest = before.rest ++ last;
      is =
          ap (λ (k : ℕ). entries (made_acts seed k)) (let e : n + suc more ≡ suc (n + more) = omega arith in e)
          ∙ acts-more seed (n + more)
          ∙ ap (λ (l : History). l ++ last) before.is
          ∙ append_assoc (entries (made_acts seed n)) before.rest last;
    }

-- ---- the image behind n acts

module _ (seed n : ℕ) (old mid : Seen) (fresh : StandsFor old (new_image old.faults) []) (adds : Adds (entries (made_acts seed n)) old mid) where
  abbrev pub begins : Base
  begins = new_image old.faults

  abbrev pub history : History
  history = (adds.stands begins [] fresh).0

  pub stands : StandsFor mid begins history
  stands = (adds.stands begins [] fresh).2

  pub are-acts : without_reads history ≡ entries (made_acts seed n)
  are-acts = (adds.stands begins [] fresh).1

  pub is-made : IsMadeBy n (tally_of seed n).commits (now begins history)
  is-made =
      subst (λ (c : Base). IsMadeBy n (tally_of seed n).commits c) (sym (now-without begins history ∙ ap (λ (l : History). now begins l) are-acts))
      (made-by seed old.faults n stands.base_is stands.few (subst (λ (l : History). Proper begins l) are-acts (proper-without history begins stands.proper)))

  all-earlier : All (IsEarlier n) (uuids_in (parts_view mid.parts))
  all-earlier =
      subst (λ (list : List (List ℕ)). All (IsEarlier n) list) (sym (uuids-now mid begins history stands))
      (subst (λ (files : List (List ℕ)). All (IsEarlier n) (map uuid_in (files ++ (now begins history).done))) (sym is-made.lowers) is-made.uuids)

  pub layers-are : length (uuids_in (parts_view mid.parts)) ≡ (tally_of seed n).commits
  layers-are =
      ap (λ (list : List (List ℕ)). length list) (uuids-now mid begins history stands)
      ∙ ap (λ (files : List (List ℕ)). length (map uuid_in (files ++ (now begins history).done))) is-made.lowers
      ∙ length-map (now begins history).done uuid_in
      ∙ is-made.layers

  pub may-act : n < 100000 → MayAct (parts_view mid.parts) (drawn seed n)
  may-act few =
      let v = (stands-for mid begins history stands).view in record {
        drawn_is = is-drawn n (drawn seed n) few (nth-drawn seed n);
        unlike = unlike-earlier n (uuids_in (parts_view mid.parts)) (drawn seed n) few all-earlier (nth-drawn seed n);
        sectors = v.sectors ∙ is-made.sectors ∙ sectors-are;
        rows = let r = v.rows in let m = is-made.rows in omega (arith, r, m, few);
        filled = let r = v.filled in let m = is-made.filled in omega (arith, r, m, few);
        free = pending-now mid begins history stands ∙ ap pending_of is-made.frozen;
      }

  -- and one act more: whatever it is that was drawn
  module _ (d : Drawn) (is : d ≡ drawn seed n) (new : Seen) where
    pub adds-next : Adds (entries (acts_with (length (uuids_in (parts_view mid.parts))) d)) mid new → Adds (entries (made_acts seed (suc n))) old new
    adds-next more =
        let layers : ℕ = (tally_of seed n).commits in
        let moved : Adds (entries (acts_with layers (drawn seed n))) mid new =
        subst (λ (e : Drawn). Adds (entries (acts_with layers e)) mid new) is (subst (λ (k : ℕ). Adds (entries (acts_with k d)) mid new) layers-are more) in
        subst (λ (l : History). Adds l old new) (sym (acts-more seed n)) (adds-joined (entries (made_acts seed n)) (entries (acts_with layers (drawn seed n))) old mid new adds moved)

    pub stops-next : (count : ℕ) → n < count → mid.faults ≡ old.faults → (refusal : Refusal)
        → StopsIn (entries (acts_with (length (uuids_in (parts_view mid.parts))) d)) (AsksIn d) mid new refusal → StopsIn (entries (made_acts seed count)) (AsksOf seed count) old new refusal
    stops-next count below calm refusal stops =
        let layers : ℕ = (tally_of seed n).commits in
        let own : History = entries (acts_with layers (drawn seed n)) in
        let moved : StopsIn own (AsksIn (drawn seed n)) mid new refusal =
        subst (λ (e : Drawn). StopsIn (entries (acts_with layers e)) (AsksIn e) mid new refusal) is
        (subst (λ (k : ℕ). StopsIn (entries (acts_with k d)) (AsksIn d) mid new refusal) layers-are stops) in
        let all : suc n + (count - suc n) ≡ count = omega (arith, below) in
        let starts : StartsWith (entries (made_acts seed count)) (entries (made_acts seed n) ++ own) =
        subst (λ (l : History). StartsWith (entries (made_acts seed count)) l) (acts-more seed n)
        (subst (λ (k : ℕ). StartsWith (entries (made_acts seed k)) (entries (made_acts seed (suc n)))) all (begins-more seed (suc n) (count - suc n))) in
        stops-joined (entries (made_acts seed count)) (entries (made_acts seed n)) own (AsksIn (drawn seed n)) (AsksOf seed count) old mid new refusal starts adds calm (λ asked asks. inr (n, below, asks)) moved
