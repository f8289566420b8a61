-- What steps of the image add to the history for which it stands, and why a run of them stops.
use Rattle.std.proofs.Common.{◌≡◌, ℕ, true, false, length, ◌+◌, ◌<◌, ◌≤◌, Bool, List, [], ◌∷◌, ◌++◌, refl, sym, ap, ◌∙◌, subst, arith, inl, inr, append_assoc, append-nil, length-append}
use Rattle.std.specs.Prelude.{Option, Some, None, Result, Ok, Err, IfErr, Contains, ltb, if◌then◌else◌}
use Rattle.flat_image.specs.declared.act.Act.{Act}
use Rattle.flat_image.specs.declared.act.Asked.{Asked}
use Rattle.flat_image.specs.declared.act.Act.TheVariants as act
use Rattle.flat_image.specs.declared.act.Asked.TheVariants.{Nothing}
use Rattle.flat_image.specs.Entries.{entry, StartsWith}
use Rattle.flat_image.specs.History.{History}
use Rattle.image_core.specs.Seen.{Seen, StandsFor, IsImage, Goes}
use Rattle.layer_commands.specs.declared.refusal.Refusal.{Refusal}
use Rattle.layer_commands.specs.declared.refusal.Refusal.TheVariants as refused
use Rattle.image_core.specs.Committing.{uuids_in}
use Rattle.image_core.specs.Growing.{pending_in}
use Rattle.image_core.specs.declared.whole.WholeFault.{WholeFault}
use Rattle.image_core.specs.declared.whole.WholeFault.TheVariants as whole
use Rattle.image_core.specs.Parts.{noted_change, parts_view}
use Rattle.image_core.specs.Whole.{noted_whole}
use Rattle.top_writer.specs.declared.fault.WriteFault.{WriteFault}
use Rattle.top_writer.specs.declared.fault.WriteFault.TheVariants.{Memory, Failed}
use Rattle.image_commands.specs.Images.{commit_acts, entries}
use Rattle.image_commands.specs.ImageSteps.{Adds, AddsFront, CommitCause, fault, fault_of, without_reads}
use Rattle.image_commands.proofs.ImageAdds.{adds-joined}
use Rattle.image_make.specs.declared.draws.Drawn.TheVariants.{Commit}
use Rattle.image_make.specs.Acts.{acts_with}
use Rattle.image_make.specs.Making.{AsksIn}
use Rattle.image_make.specs.Steps.{StopsIn}

pub one-added : (old new : Seen) (a : Act) → without_reads (entry 0 a ∷ []) ≡ entry 0 a ∷ [] → Goes old new (Some a) → Adds (entry 0 a ∷ []) old new
one-added old new a stays goes = record { stands = λ base history stands. (entry 0 a ∷ [], stays, goes.stands base history 0 stands) }

pub none-added : (old new : Seen) → Goes old new None → Adds [] old new
none-added old new goes = record {
  stands = λ base history stands. ([], refl, subst (λ (h : History). StandsFor new base h) (sym (append-nil history)) (goes.stands base history 0 stands));
}

pub still-standing : (acts : History) (old new : Seen) → IsImage old → Adds acts old new → IsImage new
still-standing acts old new standing adds = let a = adds.stands standing.0 standing.1 standing.2 in (standing.0, standing.1 ++ a.0, a.2)

pub one-step : (old new : Seen) (a : Act) → IsImage old → Goes old new (Some a) → new.parts.steps ≡ old.parts.steps + 1
one-step old new a standing goes =
    let before = standing.2.steps in
    let after = (goes.stands standing.0 standing.1 0 standing.2).steps in
    omega (arith, before, after, length-append standing.1 (entry 0 a ∷ []))

-- a zero and a write of what their parts are
pub same-zero : (P : Act → Type 0) → {a n at count : ℕ} → a ≡ at → n ≡ count → P (act.Zero a n) → P (act.Zero at count)
same-zero P {a} {n} {at} {count} place many p = subst (λ (k : ℕ). P (act.Zero at k)) many (subst (λ (k : ℕ). P (act.Zero k n)) place p)

pub same-write : (P : Act → Type 0) → {a at : ℕ} {bytes other : List ℕ} → a ≡ at → bytes ≡ other → P (act.Write a bytes) → P (act.Write at other)
same-write P {a} {at} {bytes} {other} place same p = subst (λ (b : List ℕ). P (act.Write at b)) same (subst (λ (k : ℕ). P (act.Write k bytes)) place p)

-- a change that found no memory, or in which the disk failed
abbrev pub refuses : WriteFault → Result (Unit {0}) WriteFault
refuses why = Err why

pub unmade : (a : Act) (old new : Seen) (why : WriteFault) → why ≡ Memory → Goes old new (noted_change a (refuses why)) → Adds [] old new
unmade a old new why is goes = none-added old new (subst (λ (w : WriteFault). Goes old new (noted_change a (refuses w))) is goes)

pub broken : (a : Act) (old new : Seen) (why : WriteFault) → why ≡ Failed → Goes old new (noted_change a (refuses why)) → Adds fault old new
broken a old new why is goes = one-added old new (act.Fault Nothing) refl (subst (λ (w : WriteFault). Goes old new (noted_change a (refuses w))) is goes)

-- and the same of a read of the whole image
abbrev pub refuses_read : WholeFault → Result (Unit {0}) WholeFault
refuses_read why = Err why

pub read-added : (at count : ℕ) (old new : Seen) → Goes old new (Some (act.Read at count)) → Adds [] old new
read-added at count old new goes = record { stands = λ base history stands. (entry 0 (act.Read at count) ∷ [], refl, goes.stands base history 0 stands) }

pub unread : (a : Act) (old new : Seen) (why : WholeFault) → why ≡ whole.Memory → Goes old new (noted_whole a (refuses_read why)) → Adds [] old new
unread a old new why is goes = none-added old new (subst (λ (w : WholeFault). Goes old new (noted_whole a (refuses_read w))) is goes)

pub misread : (a : Act) (old new : Seen) (why : WholeFault) → why ≡ whole.DiskFault → Goes old new (noted_whole a (refuses_read why)) → Adds fault old new
misread a old new why is goes = one-added old new (act.Fault Nothing) refl (subst (λ (w : WholeFault). Goes old new (noted_whole a (refuses_read w))) is goes)

-- the first step found no memory, or the disk failed in it
pub stops-short : (acts : History) (asks : Asked → Type 0) (old new : Seen) → Adds [] old new → StopsIn acts asks old new refused.Memory
stops-short acts asks old new adds = ([], record { rest = acts; is = refl }, adds)

pub stops-failed : (acts : History) (asks : Asked → Type 0) (old new : Seen) → asks Nothing → old.faults < new.faults → Adds fault old new
    → StopsIn acts asks old new refused.DiskFault
stops-failed acts asks old new may rose adds = (rose, ([], record { rest = acts; is = refl }, inr (Nothing, may, adds)))

begins-within : (acts done more front : History) → StartsWith acts (done ++ more) → StartsWith more front → StartsWith acts (done ++ front)
begins-within acts done more front starts begins = record {
  rest = begins.rest ++ starts.rest;
  is =
      starts.is
      ∙ ap (λ (l : History). (done ++ l) ++ starts.rest) begins.is
      ∙ ap (λ (l : History). l ++ starts.rest) (sym (append_assoc done front begins.rest))
      ∙ append_assoc (done ++ front) begins.rest starts.rest;
}

-- a run that stopped behind what was done before
pub stops-joined : (acts done more : History) (asks wide : Asked → Type 0) (old mid new : Seen) (refusal : Refusal) → StartsWith acts (done ++ more)
    → Adds done old mid → mid.faults ≡ old.faults → ((asked : Asked) → asks asked → wide asked) → StopsIn more asks mid new refusal → StopsIn acts wide old new refusal
stops-joined acts done more asks wide old mid new refused.Memory starts adds calm may stops = (
  done ++ stops.0,
  begins-within acts done more stops.0 starts stops.1,
  adds-joined done stops.0 old mid new adds stops.2,
)
stops-joined acts done more asks wide old mid new refused.DiskFault starts adds calm may stops =
    let front : History = stops.1.0 in (
      omega (arith, calm, stops.0),
      (
        done ++ front,
        begins-within acts done more front starts stops.1.1,
        elim stops.1.2 [
          | inl added ↦ inl (adds-joined done front old mid new adds added)
          | inr found ↦ inr (
            found.0,
            may found.0 found.1,
            subst (λ (h : History). Adds h old new) (sym (append_assoc done front (fault_of found.0))) (adds-joined done (front ++ fault_of found.0) old mid new adds found.2),
          )
        ],
      ),
    )
stops-joined acts done more asks wide old mid new other starts adds calm may stops = absurd stops

-- what a step may have asked for, in other words
pub stops-asked : {T : Type 0} (r : Result T Refusal) (acts : History) (asks wide : Asked → Type 0) (old new : Seen) → ((asked : Asked) → asks asked → wide asked)
    → IfErr r (StopsIn acts asks old new) → IfErr r (StopsIn acts wide old new)
stops-asked (Ok value) acts asks wide old new may stops = tt
stops-asked (Err refused.Memory) acts asks wide old new may stops = stops
stops-asked (Err refused.DiskFault) acts asks wide old new may stops = (
  stops.0,
  (stops.1.0, stops.1.1, elim stops.1.2 [ inl added ↦ inl added | inr found ↦ inr (found.0, may found.0 found.1, found.2) ]),
)
stops-asked (Err other) acts asks wide old new may stops = absurd stops

-- a commit of fewer than 255 layers
pub few-layers : (n : ℕ) (uuid : List ℕ) → (255 ≤ n → ⊥) → entries (commit_acts uuid None) ≡ entries (acts_with n (Commit uuid))
few-layers n uuid few = by-test (ltb n 255) (grind arith)
  where
    by-test : (b : Bool) → b ≡ true → entries (commit_acts uuid None) ≡ entries (if b then act.Freeze uuid ∷ act.Seal uuid ∷ [] else [])
    by-test true is = refl
    by-test false is = absurd (cc)

-- a commit of an image with no commit in progress and no layer of its uuid stops for want of memory or by the disk's fault
pub commit-stops : (uuid : List ℕ) (old new : Seen) (refusal : Refusal) → pending_in (parts_view old.parts) ≡ None → (Contains (uuids_in (parts_view old.parts)) uuid → ⊥)
    → (refusal ≡ refused.TooManyLayers → ⊥) → (255 ≤ length (uuids_in (parts_view old.parts)) → refusal ≡ refused.TooManyLayers) → CommitCause uuid old new refusal
    → StopsIn (entries (acts_with (length (uuids_in (parts_view old.parts))) (Commit uuid))) (AsksIn (Commit uuid)) old new refusal
commit-stops uuid old new refused.Memory free unlike other many cause =
    stops-short (entries (acts_with (length (uuids_in (parts_view old.parts))) (Commit uuid))) (AsksIn (Commit uuid)) old new cause.1
commit-stops uuid old new refused.DiskFault free unlike other many cause = (
  cause.1,
  subst (λ (h : History). AddsFront h (AsksIn (Commit uuid)) old new)
      (ap (λ (o : Option (List ℕ)). entries (commit_acts uuid o)) free ∙ few-layers (length (uuids_in (parts_view old.parts))) uuid (λ full. let is = many full in cc)) cause.2,
)
commit-stops uuid old new (refused.Busy held) free unlike other many cause = let e : Some held ≡ None = sym cause.0 ∙ free in absurd (cc)
commit-stops uuid old new refused.UuidTwice free unlike other many cause = absurd (unlike cause.2)
commit-stops uuid old new refused.TooManyLayers free unlike other many cause = absurd (other refl)
commit-stops uuid old new refusal free unlike other many cause = absurd cause
