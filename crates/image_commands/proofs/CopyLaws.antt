-- Sectors of an image, piece by piece.
use Rattle.std.proofs.Common.{◌≡◌, ℕ, zero, suc, ◌+◌, ◌*◌, ◌<◌, ◌≤◌, Bool, IsTrue, List, [], ◌∷◌, ◌++◌, length, take, drop, refl, sym, ap, ◌∙◌, subst, arith, length-append}
use Rattle.std.specs.Prelude.{Option, IfSome, Err}
use Rattle.std.specs.Result.{IsErrOf}
use Rattle.std.proofs.Math.Seq.{take-add, drop-nil}
use Rattle.std.proofs.lemmas.List.Folds.{concat-append}
use Rattle.block_disk.specs.DiskState.{DiskState}
use Rattle.flat_image.specs.declared.act.Act.{Act}
use Rattle.flat_image.specs.declared.act.Act.TheVariants as act
use Rattle.flat_image.specs.declared.act.Asked.TheVariants.{Nothing}
use Rattle.image_core.specs.declared.parts.Parts.{Parts}
use Rattle.flat_image.specs.declared.base.Base.{Base}
use Rattle.flat_image.specs.History.{History, after, reply}
use Rattle.flat_image.specs.Sheets.{bytes_of}
use Rattle.std.proofs.KnownBytes.{Appends-trans}
use Rattle.byte_ports.proofs.Chains.{AppendsFront-after}
use Rattle.layer_commands.specs.declared.refusal.Refusal.{Refusal}
use Rattle.layer_commands.specs.declared.refusal.Refusal.TheVariants as refused
use Rattle.image_core.specs.declared.whole.WholeFault.{WholeFault}
use Rattle.image_core.specs.declared.whole.WholeFault.TheVariants.{Memory, DiskFault, ShelfFault}
use Rattle.image_core.specs.Whole.{noted_whole}
use Rattle.image_core.specs.Seen.{Seen, StandsFor, Goes}
use Rattle.image_commands.specs.ImageSteps.{Adds, fault, AreSectors, WritesSectors, WritesFront, ReadCause, whole_cause}
use Rattle.layer_commands.proofs.Pieces.{IfSome-at, IfSome-each}
use Rattle.image_commands.proofs.WithoutReads.{reply-read}
use Rattle.image_commands.proofs.ImageAdds.{adds-none, adds-act, adds-joined}

-- a whole read failed
pub whole-refused : (tells : Bool) (s s' : DiskState) (f f' : ℕ) (p p' : Parts) (asked : Act) (shelf shelf_now sink : ℕ) (why : WholeFault)
    → Goes (record { tells = tells; state = s; faults = f; parts = p }) (record { tells = tells; state = s'; faults = f'; parts = p' }) (noted_whole {T = Unit {0}} asked (Err why)) → (IsErrOf {T = Unit {0}} (Err why) DiskFault → f < f') → (IsErrOf {T = Unit {0}} (Err why) ShelfFault → shelf < shelf_now)
    → ReadCause (record { tells = tells; state = s; faults = f; parts = p }) (record { tells = tells; state = s'; faults = f'; parts = p' }) shelf shelf_now sink sink (whole_cause why)
whole-refused tells s s' f f' p p' asked shelf shelf_now sink Memory goes disk_failed shelf_failed = adds-none tells s s' f f' p p' goes
whole-refused tells s s' f f' p p' asked shelf shelf_now sink DiskFault goes disk_failed shelf_failed =
    (disk_failed refl, adds-act tells s s' f f' p p' (act.Fault Nothing) refl goes)
whole-refused tells s s' f f' p p' asked shelf shelf_now sink ShelfFault goes disk_failed shelf_failed = (shelf_failed refl, adds-none tells s s' f f' p p' goes)

-- these bytes are sectors of the image, of an extent that is said in other words
pub are-sectors : (image : Seen) (told : Option (List (List ℕ))) (at' count' at count : ℕ) (bytes : List ℕ) → length bytes ≡ 512 * count → at' ≡ at → count' ≡ count
    → (IsTrue image.tells → IfSome told (λ files. (base : Base) (history : History) → StandsFor image base history → base.lowers ≡ files → bytes ≡ reply base history at' count'))
    → AreSectors image told at count bytes
are-sectors image told at' count' at count bytes long same_place same_count are = record {
  long = long;
  are = subst (λ (n : ℕ). IsTrue image.tells → IfSome told (λ files. (base : Base) (history : History) → StandsFor image base history → base.lowers ≡ files → bytes ≡ reply base history at n)) same_count
      (subst (λ (a : ℕ). IsTrue image.tells → IfSome told (λ files. (base : Base) (history : History) → StandsFor image base history → base.lowers ≡ files → bytes ≡ reply base history a count')) same_place are);
}

drop-drop : (n m : ℕ) (xs : List (List ℕ)) → drop m (drop n xs) ≡ drop (n + m) xs
drop-drop zero m xs = let e : m ≡ 0 + m = omega arith in ap (λ k. drop k xs) e
drop-drop (suc n) m [] = drop-nil m ∙ sym (drop-nil (suc n + m))
drop-drop (suc n) m (x ∷ xs) = let e : suc (n + m) ≡ suc n + m = omega arith in drop-drop n m xs ∙ ap (λ k. drop k (x ∷ xs)) e

pub reply-split : (base : Base) (history : History) (at first second : ℕ) → reply base history at (first + second) ≡ reply base history at first ++ reply base history (at + first) second
reply-split base history at first second =
    let image : List (List ℕ) = after base history in
    ap bytes_of (take-add first second (drop at image))
    ∙ concat-append (take first (drop at image)) (take second (drop first (drop at image)))
    ∙ ap (λ (rest : List (List ℕ)). bytes_of (take first (drop at image)) ++ bytes_of (take second rest)) (drop-drop at first image)

-- sectors, and those behind them as they are after reads
pub sectors-joined : (old mid : Seen) (told told' : Option (List (List ℕ))) (at first second : ℕ) (front back : List ℕ) → mid.tells ≡ old.tells → told' ≡ told → Adds [] old mid
    → AreSectors old told at first front → AreSectors mid told' (at + first) second back → AreSectors old told at (first + second) (front ++ back)
sectors-joined old mid told told' at first second front back tells_same told_same adds one two = record {
  long = let a = one.long in let b = two.long in omega (arith, length-append front back, a, b);
  are = λ tells. IfSome-each told (λ files e. λ base history stands over.
      let more = adds.stands base history stands in
      let here : front ≡ reply base history at first =
      IfSome-at told (λ files. (base : Base) (history : History) → StandsFor old base history → base.lowers ≡ files → front ≡ reply base history at first) files e (one.are tells) base history stands over in
      let there : back ≡ reply base (history ++ more.0) (at + first) second =
      IfSome-at told' (λ files. (base : Base) (history : History) → StandsFor mid base history → base.lowers ≡ files → back ≡ reply base history (at + first) second) files (told_same ∙ e)
      (two.are (subst (λ (b : Bool). IsTrue b) (sym tells_same) tells)) base (history ++ more.0) more.2 over in
      ap (λ (l : List ℕ). l ++ back) here ∙ ap (λ (l : List ℕ). reply base history at first ++ l) (there ∙ reply-read base history more.0 (at + first) second more.1)
      ∙ sym (reply-split base history at first second));
}

pub writes-joined : (old mid : Seen) (told told' : Option (List (List ℕ))) (at first second : ℕ) (a b c : Option (List ℕ)) → mid.tells ≡ old.tells → told' ≡ told → Adds [] old mid
    → WritesSectors old told at first a b → WritesSectors mid told' (at + first) second b c → WritesSectors old told at (first + second) a c
writes-joined old mid told told' at first second a b c tells_same told_same adds one two = record {
  bytes = one.bytes ++ two.bytes;
  sectors = sectors-joined old mid told told' at first second one.bytes two.bytes tells_same told_same adds one.sectors two.sectors;
  written = Appends-trans a b c one.bytes two.bytes one.written two.written;
}

pub front-joined : (old mid : Seen) (told told' : Option (List (List ℕ))) (at first second count : ℕ) (a b c : Option (List ℕ)) → mid.tells ≡ old.tells → told' ≡ told → Adds [] old mid
    → first + second ≤ count → WritesSectors old told at first a b → WritesFront mid told' (at + first) second b c → WritesFront old told at count a c
front-joined old mid told told' at first second count a b c tells_same told_same adds within one two = record {
  part = first + two.part;
  within = let less = two.within in omega (arith, less, within);
  bytes = one.bytes ++ two.bytes;
  sectors = sectors-joined old mid told told' at first two.part one.bytes two.bytes tells_same told_same adds one.sectors two.sectors;
  front = AppendsFront-after a b c one.bytes two.bytes one.written two.front;
}

-- reads, and then why further ones were refused
pub cause-after : (old mid new : Seen) (shelf shelf_mid shelf_now sink sink_mid sink_now : ℕ) (refusal : Refusal) → Adds [] old mid → old.faults ≤ mid.faults → shelf ≤ shelf_mid → sink ≤ sink_mid
    → ReadCause mid new shelf_mid shelf_now sink_mid sink_now refusal → ReadCause old new shelf shelf_now sink sink_now refusal
cause-after old mid new shelf shelf_mid shelf_now sink sink_mid sink_now refused.Memory adds later shelf_later sink_later cause = adds-joined [] [] old mid new adds cause
cause-after old mid new shelf shelf_mid shelf_now sink sink_mid sink_now refused.DiskFault adds later shelf_later sink_later cause =
    (omega (arith, later, cause.0), adds-joined [] fault old mid new adds cause.1)
cause-after old mid new shelf shelf_mid shelf_now sink sink_mid sink_now refused.ShelfFault adds later shelf_later sink_later cause =
    (omega (arith, shelf_later, cause.0), adds-joined [] [] old mid new adds cause.1)
cause-after old mid new shelf shelf_mid shelf_now sink sink_mid sink_now refused.SinkFault adds later shelf_later sink_later cause =
    (omega (arith, sink_later, cause.0), adds-joined [] [] old mid new adds cause.1)
cause-after old mid new shelf shelf_mid shelf_now sink sink_mid sink_now (refused.Layer number reason) adds later shelf_later sink_later cause = absurd cause
cause-after old mid new shelf shelf_mid shelf_now sink sink_mid sink_now (refused.Stack reason) adds later shelf_later sink_later cause = absurd cause
cause-after old mid new shelf shelf_mid shelf_now sink sink_mid sink_now refused.Usage adds later shelf_later sink_later cause = absurd cause
cause-after old mid new shelf shelf_mid shelf_now sink sink_mid sink_now refused.SourceFault adds later shelf_later sink_later cause = absurd cause
cause-after old mid new shelf shelf_mid shelf_now sink sink_mid sink_now refused.TooLong adds later shelf_later sink_later cause = absurd cause
cause-after old mid new shelf shelf_mid shelf_now sink sink_mid sink_now refused.NoLayer adds later shelf_later sink_later cause = absurd cause
cause-after old mid new shelf shelf_mid shelf_now sink sink_mid sink_now refused.NoSize adds later shelf_later sink_later cause = absurd cause
cause-after old mid new shelf shelf_mid shelf_now sink sink_mid sink_now refused.OtherSize adds later shelf_later sink_later cause = absurd cause
cause-after old mid new shelf shelf_mid shelf_now sink sink_mid sink_now refused.ImageExists adds later shelf_later sink_later cause = absurd cause
cause-after old mid new shelf shelf_mid shelf_now sink sink_mid sink_now refused.NotWholeSectors adds later shelf_later sink_later cause = absurd cause
cause-after old mid new shelf shelf_mid shelf_now sink sink_mid sink_now refused.OutOfRange adds later shelf_later sink_later cause = absurd cause
cause-after old mid new shelf shelf_mid shelf_now sink sink_mid sink_now (refused.Full rows sectors) adds later shelf_later sink_later cause = absurd cause
cause-after old mid new shelf shelf_mid shelf_now sink sink_mid sink_now (refused.Busy uuid) adds later shelf_later sink_later cause = absurd cause
cause-after old mid new shelf shelf_mid shelf_now sink sink_mid sink_now (refused.NotLarger sectors) adds later shelf_later sink_later cause = absurd cause
cause-after old mid new shelf shelf_mid shelf_now sink sink_mid sink_now refused.TooManyLayers adds later shelf_later sink_later cause = absurd cause
cause-after old mid new shelf shelf_mid shelf_now sink sink_mid sink_now refused.UuidTwice adds later shelf_later sink_later cause = absurd cause
