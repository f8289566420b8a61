use Rattle.std.proofs.Common.{◌≡◌, ℕ, ◌+◌, ◌∙◌, ◌&&◌, is_some, List, [], ◌∷◌, ◌++◌, length, get_or, false, refl, sym, ap, subst, arith, length-append}
use Rattle.flat_image.specs.declared.act.Act.{Act}
use Rattle.flat_image.specs.History.{History}
use Rattle.turn_lock.specs.Locks.{Place, place, AreSeats, IsHistory}
use Rattle.turn_lock.proofs.Lists.{last_seat, other_seats, more_seats}
use Rattle.image_core.specs.Seen.{seen, StandsFor}
use Rattle.shared_image.specs.Turns.{seat_port}
use Rattle.lane_serve.specs.declared.lane.LaneEnd.TheVariants.{NoMore}
use Rattle.lane_export.specs.declared.parts.Control.{Control}
use Rattle.lane_export.specs.Lanes.{first_port, WhyEnded, ControlDone, ends_at, control_at, stream_of}
use Rattle.lane_export.proofs.Rows.{all-front, first-last}
use Rattle.lane_export.proofs.Composed.{first-of, seats-from, lane-in, why-ended, control-served, closed-empty, exports-served}
use Rattle.lane_export.proofs.Shown.{shown-left, shown-holds}
use Rattle.lane_export.proofs.lanes.export_image.Goals as goal

pub serve_in_lanes-requires-clause-seats : goal.serve_in_lanes-requires-clause-seats
serve_in_lanes-requires-clause-seats g c κs bounds =
    let id = c.in-Ok.made.0.id in
    first-of id _ c.pop.new.self.items (other_seats id _ c.in-Ok.made.1 c.pop.new.self.items c.in-Some.seat c.in-Ok.ensures.seats.0 (sym c.into_vec-seats.ensures ∙ c.in-Some.ensures.items))
    (all-front (λ (s : Place Act). s.seen ≡ []) c.in-Ok.made.1 c.pop.new.self.items c.in-Some.seat (sym c.into_vec-seats.ensures ∙ c.in-Some.ensures.items) c.in-Ok.ensures.seats.1)

pub serve_in_lanes-requires-clause-shelves : goal.serve_in_lanes-requires-clause-shelves
serve_in_lanes-requires-clause-shelves g c κs bounds = rw c.in-Ok.ensures.lock.0 c.requires.shelves

pub serve_in_lanes-requires-clause-control_told : goal.serve_in_lanes-requires-clause-control_told
serve_in_lanes-requires-clause-control_told g c κs bounds = rw c.in-Ok.ensures.lock.0 c.requires.control_told

pub flush-last-requires : goal.flush-last-requires
flush-last-requires g c =
    let last = last_seat c.in-Ok.made.0.id _ c.in-Ok.made.1 c.pop.new.self.items c.in-Some.seat c.in-Ok.ensures.seats.0 (sym c.into_vec-seats.ensures ∙ c.in-Some.ensures.items) in
    record { seat = record { lock_is = c.in-Ok-serve_in_lanes.ensures.same.lock ∙ last.0; idle = c.in-Ok-serve_in_lanes.ensures.same.idle } }

pub close-image-requires : goal.close-image-requires
close-image-requires g c =
    let id = c.in-Ok.made.0.id in
    let rest = c.pop.new.self.items in
    let last = last_seat id _ c.in-Ok.made.1 rest c.in-Some.seat c.in-Ok.ensures.seats.0 (sym c.into_vec-seats.ensures ∙ c.in-Some.ensures.items) in
    let r = c.in-Ok-serve_in_lanes.ensures in
    let seats = c.in-Ok-serve_in_lanes.seats.items in
    let are = seats-from id (record { left = g.L.A.Source.left; reads = g.L.A.Source.faults; written = g.L.B.Sink.written; writes = g.L.B.Sink.faults; takes = false; export = c.args.export.now }) c.args.pairs.items c.in-Ok-serve_in_lanes.pairs.items (λ (k : ℕ) (pair : g.row.S.Denot × g.row.L.Denot). record { port = first_port (g.D.Disk.tells && is_some (g.S.Shelf.files pair.0)) c.in-Ok.made.0 k (g.S.Shelf.faults pair.0); told = g.L.Listener.told pair.1; faults = g.L.Listener.faults pair.1 }) (λ (pair : g.row.S.Denot × g.row.L.Denot). g.L.Listener.told pair.1) (λ (pair : g.row.S.Denot × g.row.L.Denot). g.L.Listener.faults pair.1) (λ (pair : g.row.S.Denot × g.row.L.Denot). g.S.Shelf.faults pair.0) seats c.args.connections (λ k. get_or r.lanes.0 k NoMore) r.count.0 (λ k e. refl) (λ k e. refl) (λ k e f s lt. r.lanes.3 k e f s NoMore lt) in
    let longer : length c.in-Ok.made.1 ≡ length rest + 1 = ap (λ (l : List (Place Act)). length l) (sym c.into_vec-seats.ensures ∙ c.in-Some.ensures.items) ∙ length-append rest (c.in-Some.seat ∷ []) in
    let all = c.in-Ok.ensures.seats.0.all in
    let made = c.in-Ok.ensures.lock.2 in
    let many = r.count.0 in
    let pairs = c.args.pairs.ok in
    let counted = c.len-count.ensures in
    let few = c.requires.few in
    let rest_many : length rest ≡ length seats = omega (arith, longer, all, made, many, pairs, counted, few) in
    let number : c.flush-last.new.seat.number ≡ length seats = c.flush-last.ensures.same.number ∙ (r.same.number ∙ (last.1 ∙ rest_many)) in
    let more = more_seats id (length seats) seats c.flush-last.new.seat are (c.flush-last.ensures.same.lock ∙ (r.same.lock ∙ last.0)) number c.flush-last.ensures.same.idle in
    let count : length seats + 1 ≡ c.in-Ok.made.0.seats = omega (arith, made, many, pairs, counted, few) in
    subst (AreSeats id c.in-Ok.made.0.seats) (sym (c.from_vec.ensures ∙ c.push_reserved.ensures.items)) (subst (λ (m : ℕ). AreSeats id m (seats ++ c.flush-last.new.seat ∷ [])) count more)

pub push_reserved-requires-in-Err-serve_in_lanes : goal.push_reserved-requires-in-Err-serve_in_lanes
push_reserved-requires-in-Err-serve_in_lanes g c =
    let u = c.in-Err-serve_in_lanes.ensures.unserved in
    let same : length c.in-Err-serve_in_lanes.seats.items ≡ length c.pop.new.self.items = ap (λ (l : List (Place Act)). length l) u.0 in
    let cap = u.1 in let left = c.pop.ensures.capacity in let len = c.pop.ensures.cases in let a = c.in-Err-serve_in_lanes.seats.ok in let b = c.pop.new.self.ok in let d = c.into_vec-seats.result.ok in let small = c.into_vec-seats.result.small in
    let longer : length c.into_vec-seats.result.items ≡ length c.pop.new.self.items + 1 = ap (λ (l : List (Place Act)). length l) c.in-Some.ensures.items ∙ length-append c.pop.new.self.items (c.in-Some.seat ∷ []) in
    omega (arith, same, cap, left, a, b, d, small, longer)

pub returns-in-Ok-serve_in_lanes-clause-exports : goal.returns-in-Ok-serve_in_lanes-clause-exports
returns-in-Ok-serve_in_lanes-clause-exports g c =
    let id = c.in-Ok.made.0.id in
    let rest = c.pop.new.self.items in
    let last = last_seat id _ c.in-Ok.made.1 rest c.in-Some.seat c.in-Ok.ensures.seats.0 (sym c.into_vec-seats.ensures ∙ c.in-Some.ensures.items) in
    let r = c.in-Ok-serve_in_lanes.ensures in
    let seats = c.in-Ok-serve_in_lanes.seats.items in
    let are = seats-from id (record { left = g.L.A.Source.left; reads = g.L.A.Source.faults; written = g.L.B.Sink.written; writes = g.L.B.Sink.faults; takes = false; export = c.args.export.now }) c.args.pairs.items c.in-Ok-serve_in_lanes.pairs.items (λ (k : ℕ) (pair : g.row.S.Denot × g.row.L.Denot). record { port = first_port (g.D.Disk.tells && is_some (g.S.Shelf.files pair.0)) c.in-Ok.made.0 k (g.S.Shelf.faults pair.0); told = g.L.Listener.told pair.1; faults = g.L.Listener.faults pair.1 }) (λ (pair : g.row.S.Denot × g.row.L.Denot). g.L.Listener.told pair.1) (λ (pair : g.row.S.Denot × g.row.L.Denot). g.L.Listener.faults pair.1) (λ (pair : g.row.S.Denot × g.row.L.Denot). g.S.Shelf.faults pair.0) seats c.args.connections (λ k. get_or r.lanes.0 k NoMore) r.count.0 (λ k e. refl) (λ k e. refl) (λ k e f s lt. r.lanes.3 k e f s NoMore lt) in
    let longer : length c.in-Ok.made.1 ≡ length rest + 1 = ap (λ (l : List (Place Act)). length l) (sym c.into_vec-seats.ensures ∙ c.in-Some.ensures.items) ∙ length-append rest (c.in-Some.seat ∷ []) in
    let all = c.in-Ok.ensures.seats.0.all in
    let made = c.in-Ok.ensures.lock.2 in
    let many = r.count.0 in
    let pairs = c.args.pairs.ok in
    let counted = c.len-count.ensures in
    let few = c.requires.few in
    let rest_many : length rest ≡ length seats = omega (arith, longer, all, made, many, pairs, counted, few) in
    let number : c.flush-last.new.seat.number ≡ length seats = c.flush-last.ensures.same.number ∙ (r.same.number ∙ (last.1 ∙ rest_many)) in
    let h = c.close-image.ensures in
    let ish : IsHistory (seats ++ c.flush-last.new.seat ∷ []) h.history = subst (λ (l : List (Place Act)). IsHistory l h.history) (c.from_vec.ensures ∙ c.push_reserved.ensures.items) h.is in
    let long : length (seats ++ c.flush-last.new.seat ∷ []) ≡ length seats + 1 = length-append seats (c.flush-last.new.seat ∷ []) in
    let tells = g.D.Disk.tells && is_some (g.S.Shelf.files c.args.control.shelf) in
    let faults = g.S.Shelf.faults c.args.control.shelf in
    let stream = stream_of g.A.Source g.B.Sink c.args.control.source c.args.control.sink in
    let now = control_at g.D.Disk g.S.Shelf c.in-Ok-serve_in_lanes.control.shelf (stream_of g.A.Source g.B.Sink c.in-Ok-serve_in_lanes.control.source c.in-Ok-serve_in_lanes.control.sink) in
    let seat_is : c.in-Some.seat ≡ place id (length c.args.pairs.items) [] false =
    first-last id c.in-Ok.made.1 rest c.in-Some.seat (sym c.into_vec-seats.ensures ∙ c.in-Some.ensures.items) (first-of id _ c.in-Ok.made.1 c.in-Ok.ensures.seats.0 c.in-Ok.ensures.seats.1)
    ∙ ap (λ (m : ℕ). place id m [] false) (rest_many ∙ many) in
    let image = seen g.D.Disk c.close-image.result in
    let stands : StandsFor image g.N.Named.it h.history = rw c.in-Ok.ensures.lock.0 at h.stands in
    let why : WhyEnded r.lanes.0 h.history (length c.args.pairs.items) c.end_by.result = subst (WhyEnded r.lanes.0 h.history (length c.args.pairs.items)) (sym c.end_by.ensures)
    (why-ended r.lanes.0 c.in-Ok-serve_in_lanes.failed c.flush-last.result seats c.in-Ok-serve_in_lanes.seat c.flush-last.new.seat h.history
    (seat_port false c.in-Ok.made.0 c.in-Ok-serve_in_lanes.seat 0) (seat_port false c.in-Ok.made.0 c.flush-last.new.seat 0) (length c.args.pairs.items)
    r.lanes.1 (c.flush-last.ensures.flush false 0) c.in-Ok.ensures.lock.1 ish (number ∙ many) (r.same.number ∙ (last.1 ∙ (rest_many ∙ many))) many are.numbered r.met refl refl refl) in
    exports-served (record { left = g.L.A.Source.left; reads = g.L.A.Source.faults; written = g.L.B.Sink.written; writes = g.L.B.Sink.faults; takes = false; export = c.args.export.now }) g.N.Named.it
    (λ (pair : g.row.S.Denot × g.row.L.Denot). g.D.Disk.tells && is_some (g.S.Shelf.files pair.0)) (λ (pair : g.row.S.Denot × g.row.L.Denot). g.S.Shelf.faults pair.0)
    (λ (pair : g.row.S.Denot × g.row.L.Denot). g.L.Listener.told pair.1) (λ (pair : g.row.S.Denot × g.row.L.Denot). g.L.Listener.faults pair.1)
    c.args.pairs.items c.in-Ok-serve_in_lanes.pairs.items c.args.connections _ _ _ _ c.end_by.result (record {
      lock = c.in-Ok.made.0;
      base_is = c.in-Ok.ensures.lock.0;
      first_is = c.in-Ok.ensures.lock.1;
      history = h.history;
      stands = stands;
      ends = r.lanes.0;
      many = r.lanes.2;
      lanes = λ k e f d lt. lane-in seats c.flush-last.new.seat h.history ish k c.flush-last.new.seat (record { left = g.L.A.Source.left; reads = g.L.A.Source.faults; written = g.L.B.Sink.written; writes = g.L.B.Sink.faults; takes = false; export = c.args.export.now }) _ _ _ _ c.args.connections _ (omega (arith, lt, many)) refl (r.lanes.3 k e f c.flush-last.new.seat d lt);
      others = λ k lt. ish.no_others k (omega (arith, lt, long, many));
      control_ended = c.in-Ok-serve_in_lanes.end;
      told_end = refl;
      control_is = control-served c.flush-last.result seats c.in-Ok-serve_in_lanes.seat c.flush-last.new.seat h.history (seat_port false c.in-Ok.made.0 c.in-Ok-serve_in_lanes.seat 0) (seat_port false c.in-Ok.made.0 c.flush-last.new.seat 0)
          (ends_at stream (first_port tells c.in-Ok.made.0 (length c.args.pairs.items) faults)) now c.in-Ok-serve_in_lanes.end (c.flush-last.ensures.flush false 0) ish number (sym many) refl (r.same.number ∙ (last.1 ∙ rest_many)) refl
          (subst (λ (s : Place Act). ControlDone (ends_at stream (seat_port tells c.in-Ok.made.0 s faults)) now c.in-Ok-serve_in_lanes.seat c.in-Ok-serve_in_lanes.end) seat_is r.served);
      why = why;
      left = shown-left image g.N.Named.it h.history stands;
      holds = shown-holds image g.N.Named.it h.history r.lanes.0 (length c.args.pairs.items) c.end_by.result stands why
          (λ tells f. (g.met.D.Disk g.world.𝓛 g.world.𝓜 g.world.𝓡 ((λ s x. x), (λ x. x), (λ x. x), (λ x. x))).seen_may_stay c.close-image.result.disk f tells);
    })

pub returns-in-Err-serve_in_lanes-clause-exports : goal.returns-in-Err-serve_in_lanes-clause-exports
returns-in-Err-serve_in_lanes-clause-exports g c =
    let u = c.in-Err-serve_in_lanes.ensures.unserved in
    let h = c.close-image-in-Err-serve_in_lanes.ensures in
    let rest = c.pop.new.self.items in
    let all : c.from_vec-in-Err-serve_in_lanes.result ≡ c.in-Ok.made.1 =
    c.from_vec-in-Err-serve_in_lanes.ensures ∙ (c.push_reserved-in-Err-serve_in_lanes.ensures.items
    ∙ (ap (λ (l : List (Place Act)). l ++ c.in-Err-serve_in_lanes.seat ∷ []) u.0 ∙ (ap (λ (s : Place Act). rest ++ s ∷ []) u.3
    ∙ sym (sym c.into_vec-seats.ensures ∙ c.in-Some.ensures.items)))) in
    let none = closed-empty c.in-Ok.made.0.id _ c.in-Ok.made.1 h.history c.in-Ok.ensures.seats.0 c.in-Ok.ensures.seats.1
    (subst (λ (l : List (Place Act)). IsHistory l h.history) all h.is) in (
      subst (λ (l : History). StandsFor (seen g.D.Disk c.close-image-in-Err-serve_in_lanes.result) g.N.Named.it l) none (rw c.in-Ok.ensures.lock.0 at h.stands),
      u.2,
      ap (λ (x : Control g.row.S.Denot g.row.A.Denot g.row.B.Denot). control_at g.D.Disk g.S.Shelf x.shelf (stream_of g.A.Source g.B.Sink x.source x.sink)) u.4,
      refl,
    )
