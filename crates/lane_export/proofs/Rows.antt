-- Lists that are put together again, one by one.
use Rattle.std.proofs.Common.{map, Bool, true, ◌||◌, ◌≡◌, ◌⊎◌, ℕ, zero, suc, ◌+◌, ◌<◌, List, [], ◌∷◌, ◌++◌, length, get_or, drop, All, false, refl, sym, ap, ◌∙◌, subst, inl, inr, ⊎_elim, arith, length-append}
use Rattle.std.proofs.lemmas.List.{get_or_append_left, length-map, map-append}
use Rattle.lane_serve.specs.declared.lane.LaneEnd.{LaneEnd}
use Rattle.atomic_table.specs.Seated.{TableId}
use Rattle.flat_image.specs.declared.act.Act.{Act}
use Rattle.flat_image.specs.Entries.{calls_by, StartsWith}
use Rattle.flat_image.specs.History.{History}
use Rattle.flat_image.specs.Ports.{PortState}
use Rattle.flat_image.proofs.Entries.{StartsWith-self, StartsWith-trans}
use Rattle.turn_lock.specs.Locks.{Place, place, IsLater}
use Rattle.shared_image.specs.Turns.{home_of}
use Rattle.image_read.specs.Reading.{IsSeatOf}
use Rattle.lane_export.specs.Lanes.{is_failed, any_failed, AreFirst, AreDealt, AreGathered}

pub last_is : {X : Type 0} (xs : List X) (x d : X) → get_or (xs ++ x ∷ []) (length xs) d ≡ x
last_is [] x d = refl
last_is (y ∷ ys) x d = last_is ys x d

-- a place of a list that one element was added to
get_more : {X : Type 0} (xs : List X) (x d : X) (k : ℕ) → k < length (xs ++ x ∷ [])
    → ((k < length xs) × (get_or (xs ++ x ∷ []) k d ≡ get_or xs k d)) ⊎ ((k ≡ length xs) × (get_or (xs ++ x ∷ []) k d ≡ x))
get_more [] x d zero lt = inr (refl, refl)
get_more [] x d (suc k) lt = absurd (omega arith)
get_more (y ∷ ys) x d zero lt = inl (omega arith, refl)
get_more (y ∷ ys) x d (suc k) lt =
    ⊎_elim
    (λ (p : (k < length ys) × (get_or (ys ++ x ∷ []) k d ≡ get_or ys k d)). inl (omega arith, p.1))
    (λ (p : (k ≡ length ys) × (get_or (ys ++ x ∷ []) k d ≡ x)). inr (omega arith, p.1))
    (get_more ys x d k (omega arith))

pub all-front : {X : Type 0} (P : X → Type 0) (all xs : List X) (x : X) → all ≡ xs ++ x ∷ [] → All P all → All P xs
all-front P all xs x is h k d lt =
    let longer : length all ≡ length xs + 1 = ap (λ l. length l) is ∙ length-append xs (x ∷ []) in
    let at = ap (λ l. get_or l k d) is ∙ get_or_append_left xs (x ∷ []) d k lt in
    subst P at (h k d (omega (arith, longer, lt)))

pub all-last : {X : Type 0} (P : X → Type 0) (all xs : List X) (x : X) → all ≡ xs ++ x ∷ [] → All P all → P x
all-last P all xs x is h =
    let longer : length all ≡ length xs + 1 = ap (λ l. length l) is ∙ length-append xs (x ∷ []) in
    subst P (ap (λ l. get_or l (length xs) x) is ∙ last_is xs x x) (h (length xs) x (omega (arith, longer)))

pub all-more : {X : Type 0} (P : X → Type 0) (xs : List X) (x : X) → All P xs → P x → All P (xs ++ x ∷ [])
all-more P xs x h p k d lt =
    ⊎_elim
    (λ (q : (k < length xs) × (get_or (xs ++ x ∷ []) k d ≡ get_or xs k d)). subst P (sym q.1) (h k d q.0))
    (λ (q : (k ≡ length xs) × (get_or (xs ++ x ∷ []) k d ≡ x)). subst P (sym q.1) p)
    (get_more xs x d k lt)

pub first-front : (lock : TableId) (all rest : List (Place Act)) (s : Place Act) → all ≡ rest ++ s ∷ [] → AreFirst lock all → AreFirst lock rest
first-front lock all rest s is h k d lt =
    let longer : length all ≡ length rest + 1 = ap (λ (l : List (Place Act)). length l) is ∙ length-append rest (s ∷ []) in
    sym (ap (λ (l : List (Place Act)). get_or l k d) is ∙ get_or_append_left rest (s ∷ []) d k lt) ∙ h k d (omega (arith, longer, lt))

pub first-last : (lock : TableId) (all rest : List (Place Act)) (s : Place Act) → all ≡ rest ++ s ∷ [] → AreFirst lock all → s ≡ place lock (length rest) [] false
first-last lock all rest s is h =
    let longer : length all ≡ length rest + 1 = ap (λ (l : List (Place Act)). length l) is ∙ length-append rest (s ∷ []) in
    sym (ap (λ (l : List (Place Act)). get_or l (length rest) s) is ∙ last_is rest s s) ∙ h (length rest) s (omega (arith, longer))

module _ {P X L : Type 0} (port : X → PortState) (listener : X → L) (first : ℕ → P → PortState) (its : P → L) where
  pub dealt-more : (pairs : List P) (lanes : List X) (p : P) (x : X) → length lanes ≡ length pairs → AreDealt port listener first its pairs lanes
      → port x ≡ first (length pairs) p → listener x ≡ its p → AreDealt port listener first its (pairs ++ p ∷ []) (lanes ++ x ∷ [])
  dealt-more pairs lanes p x same h at on k e d lt =
      let long = length-append pairs (p ∷ []) in
      let longer = length-append lanes (x ∷ []) in
      ⊎_elim
      (λ (a : (k < length pairs) × (get_or (pairs ++ p ∷ []) k e ≡ get_or pairs k e)).
      let l = get_or_append_left lanes (x ∷ []) d k (omega (arith, a.0, same)) in (
        ap port l ∙ ((h k e d a.0).0 ∙ ap (first k) (sym a.1)),
        ap listener l ∙ ((h k e d a.0).1 ∙ ap its (sym a.1)),
      ))
      (λ (a : (k ≡ length pairs) × (get_or (pairs ++ p ∷ []) k e ≡ p)).
      let l : get_or (lanes ++ x ∷ []) k d ≡ x = ap (λ (m : ℕ). get_or (lanes ++ x ∷ []) m d) (let m : k ≡ length lanes = omega (arith, a.0, same) in m) ∙ last_is lanes x d in (
        ap port l ∙ (at ∙ (λ i. first (sym a.0 i) (sym a.1 i))),
        ap listener l ∙ (on ∙ ap its (sym a.1)),
      ))
      (get_more pairs p e k lt)

  gathered-at : (shelf : P → ℕ) (x y : X) (s t : Place Act) (p q : P) → x ≡ y → s ≡ t → p ≡ q → IsSeatOf (port x) s (shelf p) → IsSeatOf (port y) t (shelf q)
  gathered-at shelf x y s t p q lane seat pair is =
      subst (λ (z : X). IsSeatOf (port z) t (shelf q)) lane
      (subst (λ (u : Place Act). IsSeatOf (port x) u (shelf q)) seat
      (subst (λ (r : P). IsSeatOf (port x) s (shelf r)) pair is))

  pub gathered-more : (shelf : P → ℕ) (seen before : History) (lanes : List X) (seats : List (Place Act)) (pairs : List P) (x : X) (s : Place Act) (p : P) → AreGathered port shelf before lanes seats pairs
      → StartsWith seen before → length pairs ≡ length lanes → IsSeatOf (port x) s (shelf p) → StartsWith seen s.seen → AreGathered port shelf seen (lanes ++ x ∷ []) (seats ++ s ∷ []) (pairs ++ p ∷ [])
  gathered-more shelf seen before lanes seats pairs x s p g longer many is met = record {
    count = let a = length-append lanes (x ∷ []) in let b = length-append seats (s ∷ []) in let c = g.count in omega (arith, a, b, c);
    each = λ k d e f lt. ⊎_elim
        (λ (a : (k < length lanes) × (get_or (lanes ++ x ∷ []) k d ≡ get_or lanes k d)).
        let c = g.count in
        let pair : get_or (pairs ++ p ∷ []) k f ≡ get_or pairs k f = get_or_append_left pairs (p ∷ []) f k (omega (arith, a.0, many)) in
        let seat : get_or (seats ++ s ∷ []) k e ≡ get_or seats k e = get_or_append_left seats (s ∷ []) e k (omega (arith, a.0, c)) in
        gathered-at shelf _ _ _ _ _ _ (sym a.1) (sym seat) (sym pair) (g.each k d e f a.0))
        (λ (a : (k ≡ length lanes) × (get_or (lanes ++ x ∷ []) k d ≡ x)).
        let c = g.count in
        let m : k ≡ length seats = omega (arith, a.0, c) in
        let n : k ≡ length pairs = omega (arith, a.0, many) in
        let pair : get_or (pairs ++ p ∷ []) k f ≡ p = ap (λ (i : ℕ). get_or (pairs ++ p ∷ []) i f) n ∙ last_is pairs p f in
        let seat : get_or (seats ++ s ∷ []) k e ≡ s = ap (λ (i : ℕ). get_or (seats ++ s ∷ []) i e) m ∙ last_is seats s e in
        gathered-at shelf _ _ _ _ _ _ (sym a.1) (sym seat) (sym pair) is)
        (get_more lanes x d k lt);
    met = all-more (λ (t : Place Act). StartsWith seen t.seen) seats s (λ k d lt. StartsWith-trans seen before (get_or seats k d).seen longer (g.met k d lt)) met;
  }

-- a lock is known by its numbers
pub one-home : (x y : TableId) → home_of x ≡ home_of y → x ≡ y
one-home x y e i = record {
  words = get_or (e i) 0 0;
  slots = get_or (e i) 1 0;
  views_name = get_or (e i) 2 0;
  atom = get_or (e i) 3 0;
  block = get_or (e i) 4 0;
  offset = get_or (e i) 5 0;
  slot_names = drop 6 (e i);
}

or_assoc : (a b c : Bool) → a || (b || c) ≡ (a || b) || c
or_assoc true b c = refl
or_assoc false b c = refl

or_false : (a : Bool) → a || false ≡ a
or_false true = refl
or_false false = refl

any-more : (ends : List LaneEnd) (end : LaneEnd) → any_failed (ends ++ end ∷ []) ≡ any_failed ends || is_failed end
any-more [] end = or_false (is_failed end)
any-more (e ∷ ends) end = ap (λ b. is_failed e || b) (any-more ends end) ∙ or_assoc (is_failed e) (any_failed ends) (is_failed end)

-- some lane has failed, or the last one has
pub failed-joined : {X : Type 0} (end : X → LaneEnd) (all lanes : List X) (x : X) (failed last : Bool) → all ≡ lanes ++ x ∷ [] → failed ≡ any_failed (map end lanes) → last ≡ is_failed (end x)
    → failed || last ≡ any_failed (map end all)
failed-joined end all lanes x failed last is before at =
    (λ i. before i || at i) ∙ (sym (any-more (map end lanes) (end x)) ∙ (ap any_failed (sym (map-append end lanes (x ∷ []))) ∙ ap (λ l. any_failed (map end l)) (sym is)))

pub later-trans : (a b c : Place Act) → IsLater a b → IsLater b c → IsLater a c
later-trans a b c first second = record {
  lock = second.lock ∙ first.lock;
  number = second.number ∙ first.number;
  seen = StartsWith-trans c.seen b.seen a.seen second.seen first.seen;
  others = subst (λ (m : ℕ). calls_by m c.seen ≡ calls_by m b.seen) first.number second.others ∙ first.others;
}

-- lists that map to one list are of one length
pub same-length : {X Y L : Type 0} (f : X → L) (g : Y → L) (xs : List X) (ys : List Y) → map f xs ≡ map g ys → length xs ≡ length ys
same-length f g xs ys is = sym (length-map xs f) ∙ (ap (λ (ls : List _). length ls) is ∙ length-map ys g)

pub later-self : (s : Place Act) → IsLater s s
later-self s = record { lock = refl; number = refl; seen = StartsWith-self s.seen; others = refl }

module _ {P X L : Type 0} (port : X → PortState) (listener : X → L) (first : ℕ → P → PortState) (its : P → L) where
  pub dealt-joined : (all rest : List P) (new lanes : List X) (p : P) (x : X) → all ≡ rest ++ p ∷ [] → new ≡ lanes ++ x ∷ [] → length lanes ≡ length rest → AreDealt port listener first its rest lanes
      → port x ≡ first (length rest) p → listener x ≡ its p → AreDealt port listener first its all new
  dealt-joined all rest new lanes p x a n same h at on =
      subst (λ (ps : List P). AreDealt port listener first its ps new) (sym a)
      (subst (λ (ls : List X). AreDealt port listener first its (rest ++ p ∷ []) ls) (sym n) (dealt-more port listener first its rest lanes p x same h at on))

  pub gathered-joined : (shelf : P → ℕ) (seen before : History) (all lanes : List X) (new seats : List (Place Act)) (given pairs : List P) (x : X) (s t : Place Act) (p : P)
      → all ≡ lanes ++ x ∷ [] → new ≡ seats ++ t ∷ [] → given ≡ pairs ++ p ∷ [] → t ≡ s → AreGathered port shelf before lanes seats pairs
      → StartsWith seen before → length pairs ≡ length lanes → IsSeatOf (port x) s (shelf p) → StartsWith seen s.seen → AreGathered port shelf seen all new given
  gathered-joined shelf seen before all lanes new seats given pairs x s t p a n b same g longer many is met =
      subst (λ (ls : List X). AreGathered port shelf seen ls new given) (sym a)
      (subst (λ (ts : List (Place Act)). AreGathered port shelf seen (lanes ++ x ∷ []) ts given) (sym (n ∙ ap (λ (y : Place Act). seats ++ y ∷ []) same))
      (subst (λ (ps : List P). AreGathered port shelf seen (lanes ++ x ∷ []) (seats ++ s ∷ []) ps) (sym b)
      (gathered-more port listener first its shelf seen before lanes seats pairs x s p g longer many is met)))

  pub fresh-dealt : (Q : L → Type 0) (pairs : List P) (lanes : List X) → length lanes ≡ length pairs → AreDealt port listener first its pairs lanes → All (λ p. Q (its p)) pairs → All (λ x. Q (listener x)) lanes
  fresh-dealt Q [] lanes same h fresh k d lt = absurd (omega (arith, lt, same))
  fresh-dealt Q (p ∷ ps) lanes same h fresh k d lt =
      let inside : k < length (p ∷ ps) = omega (arith, lt, same) in
      subst Q (sym (h k p d inside).1) (fresh k p inside)
