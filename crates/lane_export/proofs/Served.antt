-- What a port is after connections were served.
use Rattle.std.proofs.Common.{◌≡◌, ℕ, zero, suc, Option, ◌<◌, Bool, List, [], ◌∷◌, ◌++◌, length, get_or, map, All, refl, sym, ap, ◌∙◌, subst, arith}
use Rattle.std.proofs.lemmas.List.{length-map}
use Rattle.flat_image.specs.declared.act.Act.{Act}
use Rattle.flat_image.specs.Ports.{PortState, Notes}
use Rattle.flat_image.proofs.PortLaws.{Notes-none, Notes-trans}
use Rattle.nbd_session.specs.declared.served.Served.{Served}
use Rattle.nbd_session.specs.declared.served.Served.TheVariants.{Done, Aborted, BadHello, BadMagic, Truncated, Oversized, TooManyOptions, UnknownExport, TooManyRequests, SourceFault, SinkFault, Memory}
use Rattle.nbd_session.specs.Talks.{Rest, talk}
use Rattle.nbd_session.specs.Sessions.{Ends, ends, Ended, Serves}
use Rattle.nbd_session.proofs.FitsLaws.{fits_notes}
use Rattle.flat_image.specs.History.{History}
use Rattle.turn_lock.specs.Locks.{Place}
use Rattle.lane_serve.specs.declared.lane.LaneEnd.{LaneEnd}
use Rattle.lane_serve.specs.Listeners.{Listening}
use Rattle.lane_serve.specs.Lanes.{Ways, Connection, AreServed}
use Rattle.lane_export.specs.Lanes.{Member, LaneRan, LaneDone, AreDealt, AreGathered}

abbrev Noted : PortState → PortState → Type 0
Noted p q = (acts : List Act) × Notes p q acts

ended-notes : (takes : Bool) (talk : Rest) (old new : Ends) (end : Served) → Ended takes talk old new end → Noted old.port new.port
ended-notes takes talk old new end h = fits_notes takes old.port new.port (talk h.read h.answers).passed h.answers h.fits

serves-notes : (takes : Bool) (talk : Rest) (old new : Ends) (end : Served) → Serves takes talk old new end → Noted old.port new.port
serves-notes takes talk old new Done h = ended-notes takes talk old new Done h
serves-notes takes talk old new Aborted h = ended-notes takes talk old new Aborted h
serves-notes takes talk old new BadHello h = ended-notes takes talk old new BadHello h
serves-notes takes talk old new BadMagic h = ended-notes takes talk old new BadMagic h
serves-notes takes talk old new Truncated h = ended-notes takes talk old new Truncated h
serves-notes takes talk old new (Oversized length) h = ended-notes takes talk old new (Oversized length) h
serves-notes takes talk old new TooManyOptions h = ended-notes takes talk old new TooManyOptions h
serves-notes takes talk old new UnknownExport h = ended-notes takes talk old new UnknownExport h
serves-notes takes talk old new TooManyRequests h = ended-notes takes talk old new TooManyRequests h
serves-notes takes talk old new SourceFault h = ended-notes takes talk old new SourceFault h
serves-notes takes talk old new SinkFault h = ended-notes takes talk old new SinkFault h
serves-notes takes talk old new Memory h = ([], subst (λ (e : Ends). Notes old.port e.port []) (sym h) (Notes-none old.port))

-- all that a lane's connections noted
pub lane-notes : {A B : Type 0} (w : Ways A B) (cs : List (Connection A B)) (p q : PortState) → AreServed w cs p q → Noted p q
lane-notes w [] p q h = ([], subst (λ (s : PortState). Notes p s []) (sym h) (Notes-none p))
lane-notes w (c ∷ cs) p q h =
    let one = serves-notes w.takes (talk w.export p.base.sectors) (ends (w.left c.source) (w.reads c.source) (w.written c.sink) (w.writes c.sink) p)
    (ends (w.left c.source_after) (w.reads c.source_after) (w.written c.sink_after) (w.writes c.sink_after) h.0) c.end h.1 in
    let more = lane-notes w cs h.0 q h.2 in
    (one.0 ++ more.0, Notes-trans p h.0 q one.0 more.0 one.1 more.1)

pub ran-home : {A B : Type 0} (w : Ways A B) (old new : Member A B) (connections : ℕ) (end : _) → LaneRan w old new connections end → new.port.home ≡ old.port.home
ran-home w old new connections end h = ap (λ (s : PortState). s.home) (lane-notes w h.served old.port new.port h.are).1.is

module _ {P X L : Type 0} (port : X → PortState) (listener : X → L) (first : ℕ → P → PortState) (its : P → L) where
  -- lanes that ran are still of their lock
  pub homes-ran : (home : List ℕ) (pairs : List P) (old new : List X) → length old ≡ length pairs → length new ≡ length old → AreDealt port listener first its pairs old → ((k : ℕ) (p : P) → (first k p).home ≡ home)
      → ((k : ℕ) (d : X) → k < length old → (port (get_or new k d)).home ≡ (port (get_or old k d)).home) → All (λ x. (port x).home ≡ home) new
  homes-ran home [] old new many same dealt firsts ran k d lt = absurd (omega (arith, lt, same, many))
  homes-ran home (p ∷ ps) old new many same dealt firsts ran k d lt =
      ran k d (omega (arith, lt, same)) ∙ (ap (λ (s : PortState). s.home) (dealt k p d (omega (arith, lt, same, many))).0 ∙ firsts k (get_or (p ∷ ps) k p))

pub get_map : {X Y : Type 0} (f : X → Y) (xs : List X) (k : ℕ) (d : X) → get_or (map f xs) k (f d) ≡ f (get_or xs k d)
get_map f [] k d = refl
get_map f (x ∷ xs) zero d = refl
get_map f (x ∷ xs) (suc k) d = get_map f xs k d

pub get_any : {X : Type 0} (xs : List X) (k : ℕ) (d e : X) → k < length xs → get_or xs k d ≡ get_or xs k e
get_any [] k d e lt = absurd (omega (arith, lt))
get_any (x ∷ xs) zero d e lt = refl
get_any (x ∷ xs) (suc k) d e lt = get_any xs k d e (omega (arith, lt))

module _ {P X L A B : Type 0} (port : X → PortState) (listener : X → L) (end : X → LaneEnd) (first : ℕ → P → PortState) (its : P → L) (told : L → Option (Listening A B Served)) (faults : L → ℕ) (shelf : P → ℕ) where
  abbrev lane_of : X → Member A B
  lane_of x = record { port = port x; told = told (listener x); faults = faults (listener x) }

  -- what the lanes did, by the pairs that they were made of and the pairs and seats that they gave back
  pub lanes-done : (w : Ways A B) (connections : ℕ) (seen : History) (pairs pairs_after : List P) (old new : List X) (seats : List (Place Act))
      → length old ≡ length pairs → length new ≡ length old → AreDealt port listener first its pairs old
      → ((k : ℕ) (d : X) → k < length old → LaneRan w (lane_of (get_or old k d)) (lane_of (get_or new k d)) connections (end (get_or new k d)))
      → AreGathered port shelf seen new seats pairs_after → map its pairs_after ≡ map listener new
      → (k : ℕ) (e f : P) (s : Place Act) (d : LaneEnd) → k < length pairs
      → LaneDone w (record { port = first k (get_or pairs k e); told = told (its (get_or pairs k e)); faults = faults (its (get_or pairs k e)) })
      (told (its (get_or pairs_after k f))) (faults (its (get_or pairs_after k f))) (shelf (get_or pairs_after k f)) (get_or seats k s) connections (get_or (map end new) k d)
  lanes-done w connections seen pairs pairs_after old [] seats many same dealt ran gathered back k e f s d lt = absurd (omega (arith, lt, many, same))
  lanes-done w connections seen pairs pairs_after old (x ∷ xs) seats many same dealt ran gathered back k e f s d lt =
      let new : List X = x ∷ xs in
      let inside : k < length old = omega (arith, lt, many) in
      let here : k < length new = omega (arith, lt, many, same) in
      let l : L = listener (get_or new k x) in
      let size : length pairs_after ≡ length new = sym (length-map pairs_after its) ∙ (ap (λ (ls : List L). length ls) back ∙ length-map new listener) in
      let gave : its (get_or pairs_after k f) ≡ l =
      sym (get_map its pairs_after k f)
      ∙ (ap (λ (ls : List L). get_or ls k (its f)) back
      ∙ (get_any (map listener new) k (its f) (listener x) (let m = length-map new listener in omega (arith, here, m))
      ∙ get_map listener new k x)) in
      let from : lane_of (get_or old k x) ≡ record { port = first k (get_or pairs k e); told = told (its (get_or pairs k e)); faults = faults (its (get_or pairs k e)) } =
      λ i. record { port = (dealt k e x lt).0 i; told = told ((dealt k e x lt).1 i); faults = faults ((dealt k e x lt).1 i) } in
      let ended : get_or (map end new) k d ≡ end (get_or new k x) =
      get_any (map end new) k d (end x) (let m = length-map new end in omega (arith, here, m)) ∙ get_map end new k x in
      subst (LaneDone w (record { port = first k (get_or pairs k e); told = told (its (get_or pairs k e)); faults = faults (its (get_or pairs k e)) })
      (told (its (get_or pairs_after k f))) (faults (its (get_or pairs_after k f))) (shelf (get_or pairs_after k f)) (get_or seats k s) connections) (sym ended) (record {
        port = port (get_or new k x);
        ran = subst (λ (m : Member A B). LaneRan w m (record { port = port (get_or new k x); told = told (its (get_or pairs_after k f)); faults = faults (its (get_or pairs_after k f)) }) connections (end (get_or new k x))) from
            (subst (λ (y : L). LaneRan w (lane_of (get_or old k x)) (record { port = port (get_or new k x); told = told y; faults = faults y }) connections (end (get_or new k x))) (sym gave) (ran k x inside));
        seat_is = gathered.each k x s f here;
      })

  pub counts-gathered : (seen : History) (lanes new : List X) (seats : List (Place Act)) (pairs_after : List P) → AreGathered port shelf seen lanes seats pairs_after → map its pairs_after ≡ map listener lanes → lanes ≡ new
      → (length seats ≡ length new) × (length pairs_after ≡ length new)
  counts-gathered seen lanes new seats pairs_after g back same = (
    g.count ∙ ap (λ (l : List X). length l) same,
    sym (length-map pairs_after its) ∙ (ap (λ (ls : List L). length ls) back ∙ (length-map lanes listener ∙ ap (λ (l : List X). length l) same)),
  )
