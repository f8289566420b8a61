-- What holds of shelves within a cache holds of the shelves.
use Rattle.std.proofs.Common.{map, ◌≡◌, ℕ, ◌<◌, Bool, Option, List, [], ◌∷◌, length, get_or, All, sym, ap, ◌∙◌, subst, arith}
use Rattle.std.proofs.lemmas.List.{length-map}
use Rattle.flat_image.specs.declared.base.Base.{Base}
use Rattle.flat_image.specs.History.{History}
use Rattle.turn_lock.specs.Locks.{Lock}
use Rattle.image_core.specs.Seen.{Seen}
use Rattle.nbd_session.specs.declared.served.Served.{Served}
use Rattle.lane_serve.specs.declared.lane.LaneEnd.{LaneEnd}
use Rattle.lane_serve.specs.Listeners.{Listening}
use Rattle.lane_serve.specs.Lanes.{Ways}
use Rattle.lane_export.specs.declared.export_end.ExportEnd.{ExportEnd}
use Rattle.lane_export.specs.declared.export_end.ExportEnd.TheVariants as export_end
use Rattle.control_session.specs.declared.control_end.ControlEnd.{ControlEnd}
use Rattle.lane_export.specs.Lanes.{LaneIn, WhyEnded, HasServed, Exports, ControlAt, ControlIn, ends_at, first_port}
use Rattle.lane_export.proofs.Served.{get_map, get_any}

pub all-mapped : {X Y : Type 0} (f : X → Y) (P : Y → Type 0) (xs : List X) (ys : List Y) → map f xs ≡ ys → All P ys → All (λ x. P (f x)) xs
all-mapped {X} {Y} f P xs ys is all k d lt =
    let same : length xs ≡ length ys = sym (length-map xs f) ∙ ap (λ (l : List Y). length l) is in
    subst P (ap (λ (l : List Y). get_or l k (f d)) (sym is) ∙ get_map f xs k d) (all k (f d) (omega (arith, lt, same)))

module _ {X P A B : Type 0} (f : X → P) (w : Ways A B) (base : Base) (tells : P → Bool) (shelf : P → ℕ) (told : P → Option (Listening A B Served)) (faults : P → ℕ) (connections : ℕ) (start later : ControlAt) (ended : Option ControlEnd) where
  -- the lane of that number, by what it was made of and what came back
  abbrev At : History → Lock Base → List LaneEnd → ℕ → P → P → LaneEnd → Type 0
  At history lock ends k p q d = LaneIn w history (record { port = first_port (tells p) lock k (shelf p); told = told p; faults = faults p }) (told q) (faults q) (shelf q) connections (get_or ends k d)

  lanes-bare : (history : History) (lock : Lock Base) (ends : List LaneEnd) (olds news : List X) → length news ≡ length olds
      → ((k : ℕ) (e g : X) (d : LaneEnd) → k < length olds → At history lock ends k (f (get_or olds k e)) (f (get_or news k g)) d)
      → (k : ℕ) (e g : P) (d : LaneEnd) → k < length (map f olds) → At history lock ends k (get_or (map f olds) k e) (get_or (map f news) k g) d
  lanes-bare history lock ends [] news many h k e g d lt = absurd (omega (arith, lt))
  lanes-bare history lock ends (x ∷ xs) [] many h k e g d lt = absurd (omega (arith, many))
  lanes-bare history lock ends (x ∷ xs) (y ∷ ys) many h k e g d lt =
      let inside : k < length (x ∷ xs) = (let l = length-map (x ∷ xs) f in omega (arith, lt, l)) in
      let within : k < length (map f (y ∷ ys)) = (let l = length-map (y ∷ ys) f in omega (arith, many, inside, l)) in
      let old : f (get_or (x ∷ xs) k x) ≡ get_or (map f (x ∷ xs)) k e = sym (get_map f (x ∷ xs) k x) ∙ get_any (map f (x ∷ xs)) k (f x) e lt in
      let new : f (get_or (y ∷ ys) k y) ≡ get_or (map f (y ∷ ys)) k g = sym (get_map f (y ∷ ys) k y) ∙ get_any (map f (y ∷ ys)) k (f y) g within in
      subst (λ (q : P). At history lock ends k (get_or (map f (x ∷ xs)) k e) q d) new
      (subst (λ (p : P). At history lock ends k p (f (get_or (y ∷ ys) k y)) d) old (h k x y d inside))

  served-bare : (olds news : List X) (image : Seen) (end : ExportEnd) → length news ≡ length olds
      → HasServed w base (λ x. tells (f x)) (λ x. shelf (f x)) (λ x. told (f x)) (λ x. faults (f x)) olds news connections start later ended image end
      → HasServed w base tells shelf told faults (map f olds) (map f news) connections start later ended image end
  served-bare olds news image end many h = record {
    lock = h.lock;
    base_is = h.base_is;
    first_is = h.first_is;
    history = h.history;
    stands = h.stands;
    ends = h.ends;
    many = h.many ∙ sym (length-map olds f);
    lanes = lanes-bare h.history h.lock h.ends olds news many h.lanes;
    others = λ k lt. h.others k (let l = length-map olds f in omega (arith, lt, l));
    control_ended = h.control_ended;
    told_end = h.told_end;
    control_is = subst (λ (n : ℕ). ControlIn h.history (ends_at start.stream (first_port start.tells h.lock n start.shelf)) later h.control_ended) (sym (length-map olds f)) h.control_is;
    why = subst (λ (n : ℕ). WhyEnded h.ends h.history n end) (sym (length-map olds f)) h.why;
    left = h.left;
    holds = h.holds;
  }

  exports-bare : (olds news : List X) (image : Seen) (end : ExportEnd) → length news ≡ length olds
      → Exports w base (λ x. tells (f x)) (λ x. shelf (f x)) (λ x. told (f x)) (λ x. faults (f x)) olds news connections start later ended image end
      → Exports w base tells shelf told faults (map f olds) (map f news) connections start later ended image end
  exports-bare olds news image export_end.Flushed many h = served-bare olds news image export_end.Flushed many h
  exports-bare olds news image export_end.ListenerFailed many h = served-bare olds news image export_end.ListenerFailed many h
  exports-bare olds news image export_end.FlushFailed many h = served-bare olds news image export_end.FlushFailed many h
  exports-bare olds news image export_end.Worn many h = served-bare olds news image export_end.Worn many h
  exports-bare olds news image export_end.Memory many h = (h.0, ap (map f) h.1, h.2, h.3)

  -- and so of the lists that these are
  pub exports-back : (olds news : List X) (pairs pairs_after : List P) (image : Seen) (end : ExportEnd) → length news ≡ length olds → map f olds ≡ pairs → pairs_after ≡ map f news
      → Exports w base (λ x. tells (f x)) (λ x. shelf (f x)) (λ x. told (f x)) (λ x. faults (f x)) olds news connections start later ended image end
      → Exports w base tells shelf told faults pairs pairs_after connections start later ended image end
  exports-back olds news pairs pairs_after image end many were are h =
      subst (λ (ps : List P). Exports w base tells shelf told faults ps pairs_after connections start later ended image end) were
      (subst (λ (ps : List P). Exports w base tells shelf told faults (map f olds) ps connections start later ended image end) (sym are) (exports-bare olds news image end many h))
