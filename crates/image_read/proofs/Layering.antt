-- Reads of layers by a seat and its shelf.
use Rattle.std.proofs.Common.{◌≡◌, ℕ, ◌+◌, ◌-◌, ◌<◌, ◌≤◌, Bool, IsTrue, true, false, List, [], ◌++◌, length, take, drop, Option, Some, None, Result, Ok, Err, MatchResult, IsErrOf, IfErr, OnOk, refl, sym, ap, subst, ◌∙◌, arith, inl, inr, length-append}
use Rattle.std.specs.Prelude.{slice_index_or, IfSome}
use Rattle.std.specs.Option.{ForSome}
use Rattle.std.proofs.lemmas.List.{append-nil, get_or-append_right, get_or_append_left}
use Rattle.layer_shelf.specs.Shelves.{file_at}
use Rattle.flat_image.specs.declared.act.Act.{Act}
use Rattle.flat_image.specs.declared.base.Base.{Base}
use Rattle.flat_image.specs.declared.port_fault.PortFault.{PortFault}
use Rattle.flat_image.specs.declared.port_fault.PortFault.TheVariants.{Worn, Full, Memory, Failed}
use Rattle.flat_image.specs.Entries.{StartsWith, calls_by}
use Rattle.flat_image.specs.History.{fault_count}
use Rattle.flat_image.specs.Ports.{PortState, Notes, ChargesPort}
use Rattle.turn_lock.specs.Locks.{Lock, Place}
use Rattle.shared_image.specs.Turns.{home_of, seat_port}
use Rattle.shared_image.specs.Commits.{NotesNone, PeekFails}
use Rattle.image_core.specs.Sources.{files_told}
use Rattle.image_read.specs.Reading.{reader_port, ReadsOn, FailsOn}
use Rattle.image_read.specs.ReadingLaws.{reads-none}

abbrev Files : Type 0
Files = List (List ℕ)

-- ---- a lower layer, of the shelf

module _ (disk : Bool) (lock : Lock Base) (seat : Place Act) where
  pub shelf-reads : (f g : Option Files) (a b : ℕ) → g ≡ f → b ≡ a → ReadsOn (reader_port disk f lock seat a) (reader_port disk g lock seat b)
  shelf-reads f g a b files same =
      subst (λ (o : Option Files). ReadsOn (reader_port disk f lock seat a) (reader_port disk o lock seat b)) (sym files)
      (subst (λ (n : ℕ). ReadsOn (reader_port disk f lock seat a) (reader_port disk f lock seat n)) (sym same) (reads-none (reader_port disk f lock seat a)))

  -- the port with another count of its shelf
  noted-none : (tells : Bool) (a b : ℕ) → a ≤ b → Notes (seat_port tells lock seat a) (seat_port tells lock seat b) []
  noted-none tells a b more = record {
    more = [];
    is = λ i. record {
      home = home_of seat.lock;
      tells = tells;
      base = lock.base;
      first = lock.first;
      number = seat.number;
      seen = sym (append-nil seat.seen) i;
      faults = fault_count (calls_by seat.number seat.seen) + b;
    };
    own = refl;
    later = omega (arith, more);
    limit = λ le. le;
  }

  pub shelf-fails : (f g : Option Files) (a b : ℕ) → g ≡ f → a < b → FailsOn (reader_port disk f lock seat a) (reader_port disk g lock seat b) Failed
  shelf-fails f g a b files more =
      subst (λ (o : Option Files). FailsOn (reader_port disk f lock seat a) (reader_port disk o lock seat b) Failed) (sym files)
      (omega (arith, more), inl (noted-none _ a b (omega (arith, more))))

-- ---- a committed one, by a turn

unrisen : {T : Type 0} (p q : PortState) (r : Result T PortFault) → ChargesPort p q r → (IsErrOf r Failed → ⊥) → q.faults ≡ p.faults
unrisen p q r c other =
    let later = c.later in
    let never : p.faults < q.faults → ⊥ = λ more. other (c.only more) in
    grind (arith, later, never)

peek-reads : {T : Type 0} (p q : PortState) (x : T) → NotesNone p q → ChargesPort p q (Ok x) → ReadsOn p q
peek-reads p q x h c = record { notes = h.1; calm = unrisen p q (Ok x) c (λ e. cc e) }

peek-fails : {T : Type 0} (p q : PortState) (fault : PortFault) → PeekFails p q fault → ChargesPort {T = T} p q (Err fault) → FailsOn p q fault
peek-fails p q Worn h c = (h.0, record { notes = h.1; calm = unrisen p q (Err Worn) c (λ e. cc e) })
peek-fails p q (Full rows sectors) h c = h
peek-fails p q Memory h c = h
peek-fails p q Failed h c = (h.0, inr h.1)

pub peek-on : {T : Type 0} (p q : PortState) (r : Result T PortFault) → MatchResult r (λ _. NotesNone p q) (PeekFails p q) → ChargesPort p q r → OnOk r (ReadsOn p q)
peek-on p q (Ok x) h c = peek-reads p q x h c
peek-on p q (Err fault) h c = tt

pub peek-off : {T : Type 0} (p q : PortState) (r : Result T PortFault) → MatchResult r (λ _. NotesNone p q) (PeekFails p q) → ChargesPort p q r → IfErr r (FailsOn p q)
peek-off p q (Ok x) h c = tt
peek-off p q (Err fault) h c = peek-fails p q fault h c

-- its number among the committed ones
pub peek-there : (layer count : ℕ) (lowers done files : Files) → count ≡ length lowers → count ≤ layer → layer < length lowers + length done → StartsWith files done
    → layer - count < length files
peek-there layer count lowers done files same from below there =
    let long : length files ≡ length done + length there.rest = ap (λ (l : Files). length l) there.is ∙ length-append done there.rest in
    omega (arith, same, from, below, long)

-- ---- the bytes

-- a lower file among all layers
lower-file : (lowers done : Files) (layer : ℕ) → layer < length lowers → slice_index_or (lowers ++ done) layer [] ≡ slice_index_or lowers layer []
lower-file lowers done layer below = get_or_append_left lowers done [] layer below

-- a committed one
committed-file : (lowers done files : Files) (layer count : ℕ) → count ≡ length lowers → count ≤ layer → layer < length lowers + length done → StartsWith files done
    → slice_index_or (lowers ++ done) layer [] ≡ slice_index_or files (layer - count) []
committed-file lowers done files layer count same from below there =
    get_or-append_right lowers done count layer [] (sym same) from
    ∙ (sym (get_or_append_left done there.rest [] (layer - count) (omega (arith, same, from, below)))
    ∙ ap (λ (l : Files). slice_index_or l (layer - count) []) (sym there.is))

pub lower-bytes : (told : Bool) (files : Option Files) (done : Files) (layer size place : ℕ) (out : List ℕ)
    → IfSome files (λ list. layer < length list × (out ≡ take size (drop place (file_at list layer))))
    → IfSome (files_told told files done) (λ list. out ≡ take size (drop place (file_at list layer)))
lower-bytes true None done layer size place out h = tt
lower-bytes false files done layer size place out h = tt
lower-bytes true (Some lowers) done layer size place out h =
    h.1 ∙ ap (λ (file : List ℕ). take size (drop place file)) (sym (lower-file lowers done layer h.0))

pub committed-bytes : (told : Bool) (files : Option Files) (lowers done committed : Files) (layer count size place : ℕ) (out : List ℕ)
    → ForSome files (λ f. f ≡ lowers) → count ≡ length lowers → count ≤ layer → layer < length lowers + length done → StartsWith committed done
    → (IsTrue told → out ≡ take size (drop place (slice_index_or committed (layer - count) [])))
    → IfSome (files_told told files done) (λ list. out ≡ take size (drop place (file_at list layer)))
committed-bytes true None lowers done committed layer count size place out are same from below there h = tt
committed-bytes false files lowers done committed layer count size place out are same from below there h = tt
committed-bytes true (Some f) lowers done committed layer count size place out are same from below there h =
    let file : slice_index_or (f ++ done) layer [] ≡ slice_index_or committed (layer - count) [] =
    ap (λ (l : Files). slice_index_or (l ++ done) layer []) (are f refl) ∙ committed-file lowers done committed layer count same from below there in
    h refl ∙ ap (λ (file : List ℕ). take size (drop place file)) (sym file)
