-- What `make` leaves on a disk, what it tells, and why it stops.
use Rattle.std.proofs.Common.{◌≡◌, ◌≢◌, ℕ, zero, suc, ◌<◌, Bool, true, false, IsTrue, List, [], ◌∷◌, ◌++◌, length, refl, sym, ap, ◌∙◌, subst, arith, inl, inr, append-nil, length-append}
use Rattle.std.specs.Prelude.{All, Option, Some, None, Result, Ok, Err, OnOk, OnErr, IfErr, ◌⊎◌, ltb, if◌then◌else◌}
use Rattle.std.specs.Result.{IsErrOf}
use Rattle.std.proofs.KnownBytes.{Keeps-refl}
use Rattle.std.proofs.lemmas.List.{map-append}
use Rattle.std.proofs.lemmas.List.Elements.{All-nil, All-cons, All-head, All-tail, All-append}
use Rattle.byte_ports.specs.Ports.{AppendsFront}
use Rattle.block_disk.specs.DiskState.{Files, Leaves}
use Rattle.block_disk.specs.Claims.{Quiet}
use Rattle.gate_mark.specs.MarkFile.{mark_of}
use Rattle.flat_image.specs.declared.act.Act.{Act}
use Rattle.flat_image.specs.declared.act.Act.TheVariants as act
use Rattle.flat_image.specs.declared.act.Asked.{Asked}
use Rattle.flat_image.specs.declared.act.Asked.TheVariants.{Uuid, Sectors}
use Rattle.flat_image.specs.declared.base.Base.{Base}
use Rattle.flat_image.specs.declared.stands.Entry.{Entry}
use Rattle.flat_image.specs.Entries.{entry, StartsWith}
use Rattle.flat_image.specs.History.{History, now, after, kept, Proper}
use Rattle.flat_image.proofs.HistoryLaws.{now-append, kept-entry, proper-front}
use Rattle.sealed_layer.specs.Layers.{LayerIndex}
use Rattle.image_core.specs.declared.creating.CreateFault.{CreateFault}
use Rattle.image_core.specs.declared.creating.CreateFault.TheVariants as create
use Rattle.image_core.specs.Creating.{AreLegal}
use Rattle.image_core.specs.Loading.{AreStackOrNone}
use Rattle.image_core.specs.Numbers.{manifest_file}
use Rattle.top_writer.specs.Files.{IsSizeFor as IsTopSize}
use Rattle.lsmt_header.specs.declared.head.Head.{Head}
use Rattle.image_core.specs.Parts.{parts_view}
use Rattle.image_core.specs.Seen.{Seen, StandsFor}
use Rattle.image_core.specs.Shows.{Shows}
use Rattle.image_core.specs.Standing.{ShowsLeft}
use Rattle.image_core.specs.View.{AreLayersOf}
use Rattle.image_core.proofs.StandLaws.{kept-shows}
use Rattle.layer_commands.specs.declared.refusal.Refusal.{Refusal}
use Rattle.layer_commands.specs.declared.refusal.Refusal.TheVariants as refused
use Rattle.image_commands.specs.Images.{DiskPort, Holds, IsBegun, entries}
use Rattle.image_commands.specs.ImageSteps.{Adds, fault_of, port_of, without_reads, create_refused_as}
use Rattle.image_commands.proofs.WithoutReads.{now-without, after-without}
use Rattle.image_commands.proofs.ImageAdds.{adds-joined, adds-nothing}
use Rattle.image_commands.proofs.ImageLaws.{stands-for, leaves-acts, holds-of}
use Rattle.image_make.specs.declared.draws.Drawn.{Drawn}
use Rattle.image_make.specs.declared.draws.Drawn.TheVariants.{Flush, Zero, Write, Commit}
use Rattle.image_make.specs.declared.sums.Sums.{Sums}
use Rattle.image_make.specs.Draws.{drawn}
use Rattle.image_make.specs.Acts.{acts_with, made_acts, tally_of}
use Rattle.image_make.specs.Lines.{made_lines}
use Rattle.image_make.specs.Making.{made_image, new_image, all_entries, AsksOf, IsTold, HeldNone, HasBegun, MakesImage, MakeFails}
use Rattle.image_make.specs.Steps.{AsksNothing, IsSumOf, MakeStops, StopsIn, SumsUp, Tells}
use Rattle.image_make.proofs.MadeLaws.{as_entry, made-by, sectors-are, IsMadeBy, proper-without}
use Rattle.image_make.proofs.StepLaws.{stops-joined}

-- ---- no act of `make` is a failed step

abbrev IsGood : Entry Act → Type 0
IsGood e = (asked : Asked) → e.act ≡ act.Fault asked → ⊥

no-blame : (h front rest : History) (number : ℕ) (asked : Asked) → All IsGood h → h ≡ front ++ (entry number (act.Fault asked) ∷ rest) → ⊥
no-blame h [] rest number asked good splits =
    All-head IsGood (entry number (act.Fault asked)) rest (subst (λ (l : History). All IsGood l) splits good) asked refl
no-blame [] (e ∷ front) rest number asked good splits = cc
no-blame (x ∷ h) (e ∷ front) rest number asked good splits =
    let behind : h ≡ front ++ (entry number (act.Fault asked) ∷ rest) = cc in
    no-blame h front rest number asked (All-tail IsGood x h good) behind

flush-good : (asked : Asked) → act.Flush ≡ act.Fault asked → ⊥
flush-good asked e = cc

zero-good : (at count : ℕ) (asked : Asked) → act.Zero at count ≡ act.Fault asked → ⊥
zero-good at count asked e = cc

write-good : (at : ℕ) (bytes : List ℕ) (asked : Asked) → act.Write at bytes ≡ act.Fault asked → ⊥
write-good at bytes asked e = cc

freeze-good : (uuid : List ℕ) (asked : Asked) → act.Freeze uuid ≡ act.Fault asked → ⊥
freeze-good uuid asked e = cc

seal-good : (uuid : List ℕ) (asked : Asked) → act.Seal uuid ≡ act.Fault asked → ⊥
seal-good uuid asked e = cc

one-good : (a : Act) → ((asked : Asked) → a ≡ act.Fault asked → ⊥) → All IsGood (entry 0 a ∷ [])
one-good a good = All-cons IsGood (entry 0 a) [] good (All-nil IsGood)

commit-good : (done : Bool) (uuid : List ℕ) → All IsGood (entries (if done then act.Freeze uuid ∷ act.Seal uuid ∷ [] else []))
commit-good true uuid = All-cons IsGood (entry 0 (act.Freeze uuid)) (entry 0 (act.Seal uuid) ∷ []) (freeze-good uuid) (one-good (act.Seal uuid) (seal-good uuid))
commit-good false uuid = All-nil IsGood

good-act : (layers : ℕ) (d : Drawn) → All IsGood (entries (acts_with layers d))
good-act layers Flush = one-good act.Flush flush-good
good-act layers (Zero at count) = one-good (act.Zero at count) (zero-good at count)
good-act layers (Write at count byte) = one-good (act.Write at _) (write-good at _)
good-act layers (Commit uuid) = commit-good (ltb layers 255) uuid

good-acts : (seed n : ℕ) → All IsGood (entries (made_acts seed n))
unfolding made_acts
good-acts seed zero = All-nil IsGood
good-acts seed (suc n) =
    subst (λ (l : History). All IsGood l) (sym (map-append as_entry (made_acts seed n) (acts_with (tally_of seed n).commits (drawn seed n))))
    (All-append IsGood (entries (made_acts seed n)) (entries (acts_with (tally_of seed n).commits (drawn seed n))) (good-acts seed n) (good-act (tally_of seed n).commits (drawn seed n)))

pub flush-behind : (seed n : ℕ) → all_entries seed n ≡ entries (made_acts seed n) ++ entry 0 act.Flush ∷ []
flush-behind seed n = map-append as_entry (made_acts seed n) (act.Flush ∷ [])

-- ---- whatever a crash leaves shows all of them

shows-made : (base : Base) (seed n : ℕ) (files : Files) → ShowsLeft base (all_entries seed n) files → Shows files (now base (all_entries seed n))
shows-made base seed n files left =
    let h : History = entries (made_acts seed n) in
    let good : All IsGood (all_entries seed n) =
    subst (λ (l : History). All IsGood l) (sym (flush-behind seed n)) (All-append IsGood h (entry 0 act.Flush ∷ []) (good-acts seed n) (one-good act.Flush flush-good)) in
    let long : length (all_entries seed n) ≡ length (h ++ entry 0 act.Flush ∷ []) = ap (λ (l : History). length l) (flush-behind seed n) in
    let some : kept (h ++ entry 0 act.Flush ∷ []) ≡ suc (length h) = kept-entry h 0 act.Flush refl in
    let all : kept (all_entries seed n) ≡ length (all_entries seed n) =
    ap (λ (l : History). kept l) (flush-behind seed n) ∙ (let more = length-append h (entry 0 act.Flush ∷ []) in omega (arith, some, long, more)) in
    kept-shows base (all_entries seed n) files left all
    (λ uuid blamed. no-blame (all_entries seed n) blamed.front blamed.rest blamed.number (Uuid uuid) good blamed.splits)
    (λ sectors blamed. no-blame (all_entries seed n) blamed.front blamed.rest blamed.number (Sectors sectors) good blamed.splits)

-- ---- the image behind all of them

none-below : (files : List (List ℕ)) (layers : List LayerIndex) → files ≡ [] → AreLayersOf files layers → layers ≡ []
none-below [] [] none are = refl
none-below [] (layer ∷ layers) none are = absurd are
none-below (file ∷ files) layers none are = absurd (cc)

module _ (seed n : ℕ) (old mid : Seen) (fresh : StandsFor old (new_image old.faults) []) (adds : Adds (all_entries seed n) old mid) where
  abbrev base : Base
  base = new_image old.faults

  abbrev more : History
  more = (adds.stands base [] fresh).0

  all-stands : StandsFor mid base more
  all-stands = (adds.stands base [] fresh).2

  all-acts : without_reads more ≡ all_entries seed n
  all-acts = (adds.stands base [] fresh).1

  all-made : IsMadeBy n (tally_of seed n).commits (now base more)
  all-made =
      let h : History = entries (made_acts seed n) in
      let whole : Proper base (all_entries seed n) = subst (λ (l : History). Proper base l) all-acts (proper-without more base all-stands.proper) in
      let front : Proper base h = proper-front base h (entry 0 act.Flush ∷ []) (subst (λ (l : History). Proper base l) (flush-behind seed n) whole) in
      let same : now base more ≡ now base h =
      now-without base more ∙ ap (λ (l : History). now base l) (all-acts ∙ flush-behind seed n) ∙ now-append base h (entry 0 act.Flush ∷ []) in
      subst (λ (b : Base). IsMadeBy n (tally_of seed n).commits b) (sym same) (made-by seed old.faults n all-stands.base_is all-stands.few front)

  pub sectors-now : (parts_view mid.parts).sectors ≡ 4096
  sectors-now = (stands-for mid base more all-stands).view.sectors ∙ all-made.sectors ∙ sectors-are

  pub lowers-now : (parts_view mid.parts).lowers ≡ []
  lowers-now = none-below (now base more).lowers (parts_view mid.parts).lowers all-made.lowers (stands-for mid base more all-stands).view.lowers

  image-now : after base more ≡ made_image seed n
  image-now = after-without base more ∙ ap (λ (l : History). after base l) all-acts

  pub sums-told : (tells : Bool) (sums : Sums) (text : List ℕ) → (IsTrue tells → IsTrue mid.tells) → SumsUp mid sums
      → text ≡ made_lines n (tally_of seed n) sums.filled sums.sum → IsTold seed n tells text
  sums-told tells sums text same up is = record {
    filled = sums.filled;
    total = sums.sum;
    is = is;
    filled_is = λ told. (subst (λ (image : List (List ℕ)). IsSumOf image sums) image-now (up (same told) base more all-stands refl)).filled;
    total_is = λ told. (subst (λ (image : List (List ℕ)). IsSumOf image sums) image-now (up (same told) base more all-stands refl)).total;
  }

-- nothing was told
pub stops-untold : (seed n : ℕ) (old new : Seen) (sink : ℕ) (written : Option (List ℕ)) (refusal : Refusal)
    → StopsIn (all_entries seed n) (AsksOf seed n) old new refusal → MakeStops seed n old new sink sink written written refusal
stops-untold seed n old new sink written refused.Memory stops = (stops, Keeps-refl written)
stops-untold seed n old new sink written refused.DiskFault stops = (stops, Keeps-refl written)
stops-untold seed n old new sink written other stops = absurd stops

-- nothing more is done behind all acts
pub adds-last : (acts : History) (old mid new : Seen) → Adds acts old mid → Adds [] mid new → Adds acts old new
adds-last acts old mid new adds still = subst (λ (l : History). Adds l old new) (append-nil acts) (adds-joined acts [] old mid new adds still)

pub starts-all : (acts : History) → StartsWith acts acts
starts-all acts = record { rest = []; is = sym (append-nil acts) }

-- what the image holds was not read
pub stops-reading : (seed n : ℕ) (old mid new : Seen) (refusal : Refusal) → Adds (all_entries seed n) old mid → mid.faults ≡ old.faults → StopsIn [] AsksNothing mid new refusal
    → StopsIn (all_entries seed n) (AsksOf seed n) old new refusal
stops-reading seed n old mid new refusal adds calm stops =
    let all : History = all_entries seed n in
    stops-joined all all [] AsksNothing (AsksOf seed n) old mid new refusal (record { rest = []; is = sym (append-nil all) ∙ sym (append-nil (all ++ [])) }) adds calm (λ asked is. inl is) stops

-- the acts stopped, or the flush behind them
pub stops-acting : (seed n : ℕ) (old new : Seen) (refusal : Refusal) → StopsIn (entries (made_acts seed n)) (AsksOf seed n) old new refusal
    → StopsIn (all_entries seed n) (AsksOf seed n) old new refusal
stops-acting seed n old new refusal stops =
    let acts : History = entries (made_acts seed n) in
    stops-joined (all_entries seed n) [] acts (AsksOf seed n) (AsksOf seed n) old old new refusal (record { rest = entry 0 act.Flush ∷ []; is = flush-behind seed n }) (adds-nothing old) refl
    (λ asked is. is) stops

pub stops-flushing : (seed n : ℕ) (old mid new : Seen) (refusal : Refusal) → Adds (entries (made_acts seed n)) old mid → mid.faults ≡ old.faults
    → StopsIn (entries (act.Flush ∷ [])) AsksNothing mid new refusal → StopsIn (all_entries seed n) (AsksOf seed n) old new refusal
stops-flushing seed n old mid new refusal adds calm stops =
    let acts : History = entries (made_acts seed n) in
    stops-joined (all_entries seed n) acts (entry 0 act.Flush ∷ []) AsksNothing (AsksOf seed n) old mid new refusal
    (record { rest = []; is = flush-behind seed n ∙ sym (append-nil (acts ++ entry 0 act.Flush ∷ [])) }) adds calm (λ asked is. inl is) stops

pub adds-flushed : (seed n : ℕ) (old mid new : Seen) → Adds (entries (made_acts seed n)) old mid → Adds (entries (act.Flush ∷ [])) mid new → Adds (all_entries seed n) old new
adds-flushed seed n old mid new adds flush =
    subst (λ (l : History). Adds l old new) (sym (flush-behind seed n)) (adds-joined (entries (made_acts seed n)) (entry 0 act.Flush ∷ []) old mid new adds flush)

-- the lines were not written whole
pub told-cut : {T : Type 0} (r : Result T Refusal) (seed n : ℕ) (text : List ℕ) (old new : Seen) (sink sink_now : ℕ) (written written_now : Option (List ℕ))
    → Adds (all_entries seed n) old new → IsTold seed n old.tells text → IfErr r (λ refusal. refusal ≡ refused.SinkFault) → (IsErrOf r refused.SinkFault → sink < sink_now)
    → OnErr r (AppendsFront written written_now text) → IfErr r (MakeStops seed n old new sink sink_now written written_now)
told-cut (Ok value) seed n text old new sink sink_now written written_now adds told is rose front = tt
told-cut (Err refusal) seed n text old new sink sink_now written written_now adds told is rose front =
    subst (λ (x : Refusal). MakeStops seed n old new sink sink_now written written_now x) (sym is) (rose (ap Err is), adds, (text, told, front))

pub no-disk : {T : Type 0} (r : Result T Refusal) → IfErr r (λ refusal. refusal ≡ refused.SinkFault) → IsErrOf r refused.DiskFault → ⊥
no-disk (Ok value) is told = cc
no-disk (Err refusal) is told = let same : refusal ≡ refused.DiskFault = cc in let unlike : refused.SinkFault ≡ refused.DiskFault = sym is ∙ same in cc

-- ---- the command

none-told : AreStackOrNone []
none-told some = absurd (omega (arith, some))

pub none-legal : AreLegal 4096 []
none-legal = record { few = omega arith; sizes = All-nil (λ (head : Head). IsTopSize false 4096 head.sectors); legal = none-told }

none-or-kept : {A : Type 0} (tells : Bool) (mark : Option A) (Q : Type 0) → (IsTrue tells → mark ≢ None → Q) → Q ⊎ (IsTrue tells → mark ≡ None)
none-or-kept false mark Q kept = inr (λ t. cc)
none-or-kept true None Q kept = inr (λ t. refl)
none-or-kept true (Some a) Q kept = inl (kept refl (λ e. cc))

-- no image was made
pub create-stopped : (seed n sink : ℕ) (written : Option (List ℕ)) (disk disk_now : DiskPort) (fault : CreateFault)
    → (IsTrue disk.tells → fault ≡ create.Exists → mark_of (disk.state.seen manifest_file) ≢ None) → (fault ≡ create.Failed → disk.faults < disk_now.faults)
    → (fault ≡ create.Exists → Quiet disk.state disk_now.state) → (fault ≡ create.Memory → Quiet disk.state disk_now.state)
    → (IsTrue disk.tells → mark_of (disk.state.seen manifest_file) ≢ None → Quiet disk.state disk_now.state)
    → MakeFails seed n sink sink written written disk disk_now (create_refused_as fault)
create-stopped seed n sink written disk disk_now create.Exists exists failed untouched unbegun kept = (λ tells. exists tells refl, Keeps-refl written, untouched refl)
create-stopped seed n sink written disk disk_now create.Memory exists failed untouched unbegun kept = (Keeps-refl written, inl (unbegun refl))
create-stopped seed n sink written disk disk_now create.Failed exists failed untouched unbegun kept = (
  failed refl,
  Keeps-refl written,
  elim (none-or-kept disk.tells (mark_of (disk.state.seen manifest_file)) (Quiet disk.state disk_now.state) kept) [
    | inl quiet ↦ inl quiet
    | inr none ↦ inr (inl none)
  ],
)

module _ (seed n : ℕ) (written written_now : Option (List ℕ)) (disk : DiskPort) (old new : Seen) (none : HeldNone disk) (same_faults : old.faults ≡ disk.faults)
    (same_tells : old.tells ≡ disk.tells) (fresh : StandsFor old (new_image old.faults) []) where
  begun : (h : History) → IsBegun (all_entries seed n) (AsksOf seed n) disk.faults new.faults h → Adds h old new → HasBegun seed n disk (port_of new) h
  begun h is adds = record {
    none = none;
    begun = is;
    crash = λ files leaves. subst (λ (f : ℕ). ShowsLeft (new_image f) h files) same_faults (leaves-acts old (new_image old.faults) fresh new h adds files leaves);
  }

  all-done : Adds (all_entries seed n) old new → (IsTrue new.tells → Leaves new.state new.state.seen) → Tells seed n old.tells written written_now
      → MakesImage seed n written written_now disk (port_of new)
  all-done adds stay tells = record {
    none = none;
    holds = subst (λ (f : ℕ). Holds (port_of new) (now (new_image f) (all_entries seed n))) same_faults
        (holds-of (port_of new) (now (new_image old.faults) (all_entries seed n)) stay
        (λ files leaves. shows-made (new_image old.faults) seed n files (leaves-acts old (new_image old.faults) fresh new (all_entries seed n) adds files leaves)));
    text = tells.0;
    told = subst (λ (t : Bool). IsTold seed n t tells.0) same_tells tells.1;
    prints = tells.2;
  }

  pub make-done : (r : Result (Unit {0}) Refusal) → (IsTrue new.tells → Leaves new.state new.state.seen) → OnOk r (Adds (all_entries seed n) old new)
      → OnOk r (Tells seed n old.tells written written_now) → OnOk r (MakesImage seed n written written_now disk (port_of new))
  make-done (Ok value) stay adds tells = all-done adds stay tells
  make-done (Err refusal) stay adds tells = tt

  stopped : (sink sink_now : ℕ) (refusal : Refusal) → MakeStops seed n old new sink sink_now written written_now refusal
      → MakeFails seed n sink sink_now written written_now disk (port_of new) refusal
  stopped sink sink_now refused.Memory stops =
      (stops.1, inr (stops.0.0, begun stops.0.0 (record { front = stops.0.0; starts = stops.0.1; is = inl refl }) stops.0.2))
  stopped sink sink_now refused.DiskFault stops =
      let rose : disk.faults < new.faults = omega (arith, same_faults, stops.0.0) in
      let front : History = stops.0.1.0 in (
        rose,
        stops.1,
        inr (inr (elim stops.0.1.2 [
          | inl adds ↦ (front, begun front (record { front = front; starts = stops.0.1.1; is = inl refl }) adds)
          | inr found ↦ (
            front ++ fault_of found.0,
            begun (front ++ fault_of found.0) (record { front = front; starts = stops.0.1.1; is = inr (rose, (found.0, found.1, refl)) }) found.2,
          )
        ])),
      )
  stopped sink sink_now refused.SinkFault stops = (
    stops.0,
    begun (all_entries seed n) (record { front = all_entries seed n; starts = starts-all (all_entries seed n); is = inl refl }) stops.1,
    (stops.2.0, subst (λ (t : Bool). IsTold seed n t stops.2.0) same_tells stops.2.1, stops.2.2),
  )
  stopped sink sink_now other stops = absurd stops.0

  pub make-stopped : (r : Result (Unit {0}) Refusal) (sink sink_now : ℕ) → IfErr r (MakeStops seed n old new sink sink_now written written_now)
      → IfErr r (MakeFails seed n sink sink_now written written_now disk (port_of new))
  make-stopped (Ok value) sink sink_now stops = tt
  make-stopped (Err refusal) sink sink_now stops = stopped sink sink_now refusal stops
