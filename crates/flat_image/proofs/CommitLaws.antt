-- The layers that a history commits are the image as it was frozen.
use Rattle.std.proofs.Common.{◌≡◌, ℕ, false, List, [], ◌∷◌, ◌++◌, map, refl, sym, ap, ◌∙◌, append_assoc}
use Rattle.std.proofs.lemmas.List.{map-append}
use Rattle.std.proofs.lemmas.List.Elements.{All-head, All-tail}
use Rattle.std.specs.Prelude.{Option, None}
use Rattle.flat_image.specs.declared.act.Act.{Act}
use Rattle.flat_image.specs.declared.act.Act.TheVariants.{Read, Write, Zero, Flush, Freeze, Seal, Grow, Fault}
use Rattle.flat_image.specs.declared.base.Base.{Base}
use Rattle.flat_image.specs.declared.stands.Entry.{Entry}
use Rattle.flat_image.specs.Sheets.{Cell, flat}
use Rattle.flat_image.specs.Frozen.{Frozen}
use Rattle.flat_image.specs.LayerReading.{sheet_in}
use Rattle.flat_image.specs.Base.{sheet_list}
use Rattle.flat_image.specs.Entries.{entry}
use Rattle.flat_image.specs.History.{History, now, step, sealed_over, Proper}
use Rattle.flat_image.specs.Left.{moves_layers}
use Rattle.flat_image.specs.CommitLaws.{LeavesLayers, CommitIsImage, OpenCommitIsImage}
use Rattle.flat_image.proofs.HistoryLaws.{now-append, now-entry, now-lowers, proper-front, proper-rest, base-stays, after-is_image, base-step}
use Rattle.flat_image.proofs.LayerLaws.{sheet_in-IsLayer}
use Rattle.flat_image.proofs.SealedSheets.{sealed_file, seals-layer, few-step}

-- what does not move the layers keeps them, and what is frozen
abbrev MovesNone : Entry Act → Type 0
MovesNone e = moves_layers e.act ≡ false

step_stays : (b : Base) (act : Act) → moves_layers act ≡ false → ((step b act).done ≡ b.done) × ((step b act).frozen ≡ b.frozen)
step_stays b (Read at count) is = (refl, refl)
step_stays b (Write at bytes) is = (refl, refl)
step_stays b (Zero at count) is = (refl, refl)
step_stays b Flush is = (refl, refl)
step_stays b (Freeze uuid) is = absurd (cc)
step_stays b (Seal uuid) is = absurd (cc)
step_stays b (Grow sectors) is = (refl, refl)
step_stays b (Fault asked) is = (refl, refl)

pub now-stays : (b : Base) (h : History) → LeavesLayers h → ((now b h).done ≡ b.done) × ((now b h).frozen ≡ b.frozen)
now-stays b [] leaves = (refl, refl)
now-stays b (e ∷ h) leaves =
    let here = step_stays b e.act (All-head MovesNone e h leaves) in
    let rest = now-stays (step b e.act) h (All-tail MovesNone e h leaves) in (rest.0 ∙ here.0, rest.1 ∙ here.1)

-- the layers and one more
sheets_more : (lowers done : List (List ℕ)) (file : List ℕ) (sheet : List Cell) → sheet_in file ≡ sheet
    → map sheet_in (lowers ++ (done ++ file ∷ [])) ≡ map sheet_in (lowers ++ done) ++ sheet ∷ []
sheets_more lowers done file sheet is =
    ap (map sheet_in) (sym (append_assoc lowers done (file ∷ [])))
    ∙ (map-append sheet_in (lowers ++ done) (file ∷ []) ∙ ap (λ (s : List Cell). map sheet_in (lowers ++ done) ++ s ∷ []) is)

pub open-commit : (base : Base) → OpenCommitIsImage base
open-commit base f sealer uuid between frozen is few proper leaves =
    let h : History = between ++ entry sealer (Seal uuid) ∷ [] in
    let b : Base = now base between in
    let stays = now-stays base between leaves in
    let good = base-stays base between is few (proper-front base between (entry sealer (Seal uuid) ∷ []) proper) in
    let file : List ℕ = sealed_file b f in
    let sheet : sheet_in file ≡ f.sheet = sheet_in-IsLayer b.sectors f.uuid f.sheet file (seals-layer b good.0 good.1 f (stays.1 ∙ frozen)) in
    let done : (now base h).done ≡ b.done ++ file ∷ [] =
    ap (λ (v : Base). v.done) (now-entry base between sealer (Seal uuid))
    ∙ ap (λ (o : Option Frozen). b.done ++ sealed_over (b.lowers ++ b.done) o) (stays.1 ∙ frozen) in
    ap (λ (l : List (List ℕ)). flat base.sectors (map sheet_in (base.lowers ++ l))) done
    ∙ (ap (flat base.sectors) (sheets_more base.lowers b.done file f.sheet sheet)
    ∙ ap (λ (l : List (List ℕ)). flat base.sectors (map sheet_in (base.lowers ++ l) ++ f.sheet ∷ [])) stays.0)

pub commit-image : (base : Base) (front : History) → CommitIsImage base front
commit-image base front freezer sealer uuid between is few proper leaves =
    let rest : History = between ++ entry sealer (Seal uuid) ∷ [] in
    let h : History = front ++ entry freezer (Freeze uuid) ∷ rest in
    let b : Base = now base front in
    let c : Base = step b (Freeze uuid) in
    let f : Frozen = record { uuid = uuid; sheet = b.top } in
    let before : Proper base front = proper-front base front (entry freezer (Freeze uuid) ∷ rest) proper in
    let behind : Proper b (entry freezer (Freeze uuid) ∷ rest) = proper-rest base front (entry freezer (Freeze uuid) ∷ rest) proper in
    let good = base-stays base front is few before in
    let open_image = open-commit c f sealer uuid between refl (base-step b (Freeze uuid) good.0 behind.1 (seals-layer b good.0 good.1)) (few-step b (Freeze uuid) good.1 behind.0) behind.2 leaves in
    let none : b.frozen ≡ None = behind.1.free in
    let along : now base h ≡ now c rest = now-append base front (entry freezer (Freeze uuid) ∷ rest) in
    let lowers : base.lowers ≡ b.lowers = sym (now-lowers base front) in
    (λ i. flat b.sectors (map sheet_in (lowers i ++ (along i).done)))
    ∙ (open_image
    ∙ (ap (λ (o : Option Frozen). flat b.sectors (map sheet_in (b.lowers ++ b.done) ++ (sheet_list o ++ b.top ∷ []))) (sym none)
    ∙ after-is_image base front is few before))
