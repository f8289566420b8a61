use Rattle.std.proofs.Common.{◌≡◌, ℕ, ◌∙◌, ◌&&◌, is_some, List, length, map, All, refl, sym, ap, subst, arith}
use Rattle.std.proofs.lemmas.List.{with_items_is, length-map}
use Rattle.shared_image.specs.Turns.{home_of, seat_port}
use Rattle.lane_serve.specs.Listeners.{IsFresh}
use Rattle.lane_export.specs.declared.lanes.Lane.{Lane}
use Rattle.lane_serve.specs.declared.lane.LaneEnd.{LaneEnd}
use Rattle.lane_export.specs.Lanes.{any_failed, first_port, AreDealt, AreGathered}
use Rattle.lane_export.proofs.Rows.{fresh-dealt}
use Rattle.lane_export.proofs.Controlled.{done-from}
use Rattle.lane_export.proofs.Served.{ran-home, homes-ran, lanes-done, counts-gathered}
use Rattle.lane_export.proofs.lanes.serve_in_lanes.Goals as goal

pub run_all-requires-clause-fresh : goal.run_all-requires-clause-fresh
run_all-requires-clause-fresh g c κs bounds =
    subst (All (λ (lane : Lane g.row.D.Denot g.row.S.Denot g.row.L.Denot g.row.R.Denot g.S.Shelf). IsFresh (g.L.Listener.told lane.listener))) (sym c.as_mut_slice.ensures.value)
    (fresh-dealt (λ (lane : Lane g.row.D.Denot g.row.S.Denot g.row.L.Denot g.row.R.Denot g.S.Shelf). seat_port (g.D.Disk.tells && is_some (g.S.Shelf.files lane.reader.layers.shelf)) lane.reader.layers.image.now lane.reader.layers.seat (g.S.Shelf.faults lane.reader.layers.shelf)) (λ (lane : Lane g.row.D.Denot g.row.S.Denot g.row.L.Denot g.row.R.Denot g.S.Shelf). lane.listener) (λ (number : ℕ) (pair : g.row.S.Denot × g.row.L.Denot). first_port (g.D.Disk.tells && is_some (g.S.Shelf.files pair.0)) c.args.image.now number (g.S.Shelf.faults pair.0)) (λ (pair : g.row.S.Denot × g.row.L.Denot). pair.1) (λ (l : g.row.L.Denot). IsFresh (g.L.Listener.told l)) c.args.pairs.items c.deal.new.lanes.items c.deal.ensures.count c.deal.ensures.ports c.requires.fresh)

pub gather-failed-requires-clause-homes : goal.gather-failed-requires-clause-homes
gather-failed-requires-clause-homes g c κs bounds =
    let a = c.as_mut_slice.ensures.len in let o = c.deal.new.lanes.ok in let n = c.deal.ensures.count in
    let many : length c.as_mut_slice.result.now ≡ length c.args.pairs.items = omega (arith, a, o, n) in
    let same = with_items_is c.deal.new.lanes c.run_all.new.lanes (c.run_all.auto.lanes ∙ c.as_mut_slice.ensures.len) in
    subst (All (λ (lane : Lane g.row.D.Denot g.row.S.Denot g.row.L.Denot g.row.R.Denot g.S.Shelf). home_of lane.reader.layers.seat.lock ≡ home_of c.args.image.now.id)) (sym same)
    (homes-ran (λ (lane : Lane g.row.D.Denot g.row.S.Denot g.row.L.Denot g.row.R.Denot g.S.Shelf). seat_port (g.D.Disk.tells && is_some (g.S.Shelf.files lane.reader.layers.shelf)) lane.reader.layers.image.now lane.reader.layers.seat (g.S.Shelf.faults lane.reader.layers.shelf)) (λ (lane : Lane g.row.D.Denot g.row.S.Denot g.row.L.Denot g.row.R.Denot g.S.Shelf). lane.listener) (λ (number : ℕ) (pair : g.row.S.Denot × g.row.L.Denot). first_port (g.D.Disk.tells && is_some (g.S.Shelf.files pair.0)) c.args.image.now number (g.S.Shelf.faults pair.0)) (λ (pair : g.row.S.Denot × g.row.L.Denot). pair.1) (home_of c.args.image.now.id) c.args.pairs.items c.as_mut_slice.result.now c.run_all.new.lanes many c.run_all.auto.lanes
    (subst (AreDealt (λ (lane : Lane g.row.D.Denot g.row.S.Denot g.row.L.Denot g.row.R.Denot g.S.Shelf). seat_port (g.D.Disk.tells && is_some (g.S.Shelf.files lane.reader.layers.shelf)) lane.reader.layers.image.now lane.reader.layers.seat (g.S.Shelf.faults lane.reader.layers.shelf)) (λ (lane : Lane g.row.D.Denot g.row.S.Denot g.row.L.Denot g.row.R.Denot g.S.Shelf). lane.listener) (λ (number : ℕ) (pair : g.row.S.Denot × g.row.L.Denot). first_port (g.D.Disk.tells && is_some (g.S.Shelf.files pair.0)) c.args.image.now number (g.S.Shelf.faults pair.0)) (λ (pair : g.row.S.Denot × g.row.L.Denot). pair.1) c.args.pairs.items) (sym c.as_mut_slice.ensures.value) c.deal.ensures.ports)
    (λ k p. refl)
    (λ k d lt. ran-home _ _ _ c.args.connections _ (c.run_all.ensures.lanes k d lt)))

pub returns-clause-count : goal.returns-clause-count
returns-clause-count g c =
    let a = c.as_mut_slice.ensures.len in let o = c.deal.new.lanes.ok in let n = c.deal.ensures.count in
    let same = with_items_is c.deal.new.lanes c.run_all.new.lanes (c.run_all.auto.lanes ∙ c.as_mut_slice.ensures.len) in
    let r = c.run_all.auto.lanes in
    let both = counts-gathered (λ (lane : Lane g.row.D.Denot g.row.S.Denot g.row.L.Denot g.row.R.Denot g.S.Shelf). seat_port (g.D.Disk.tells && is_some (g.S.Shelf.files lane.reader.layers.shelf)) lane.reader.layers.image.now lane.reader.layers.seat (g.S.Shelf.faults lane.reader.layers.shelf)) (λ (lane : Lane g.row.D.Denot g.row.S.Denot g.row.L.Denot g.row.R.Denot g.S.Shelf). lane.listener) (λ (lane : Lane g.row.D.Denot g.row.S.Denot g.row.L.Denot g.row.R.Denot g.S.Shelf). lane.end) (λ (number : ℕ) (pair : g.row.S.Denot × g.row.L.Denot). first_port (g.D.Disk.tells && is_some (g.S.Shelf.files pair.0)) c.args.image.now number (g.S.Shelf.faults pair.0)) (λ (pair : g.row.S.Denot × g.row.L.Denot). pair.1) g.L.Listener.told g.L.Listener.faults (λ (pair : g.row.S.Denot × g.row.L.Denot). g.S.Shelf.faults pair.0) c.gather-failed.new.control.seen _ c.run_all.new.lanes c.gather-failed.new.seats.items c.gather-failed.new.pairs.items c.gather-failed.ensures.each c.gather-failed.ensures.listeners same in
    let one = both.0 in let two = both.1 in
    let cap = c.gather-failed.ensures.capacity.0 in let room = c.in-Ok-with_capacity.ensures.capacity in let count = c.len-count.ensures in let ok = c.args.pairs.ok in
    (omega (arith, a, o, n, r, one), omega (arith, a, o, n, r, two), omega (arith, cap, room, count, ok))

pub returns-clause-lanes : goal.returns-clause-lanes
returns-clause-lanes g c =
    let a = c.as_mut_slice.ensures.len in let o = c.deal.new.lanes.ok in let n = c.deal.ensures.count in
    let many : length c.as_mut_slice.result.now ≡ length c.args.pairs.items = omega (arith, a, o, n) in
    let same = with_items_is c.deal.new.lanes c.run_all.new.lanes (c.run_all.auto.lanes ∙ c.as_mut_slice.ensures.len) in
    let end : Lane g.row.D.Denot g.row.S.Denot g.row.L.Denot g.row.R.Denot g.S.Shelf → LaneEnd = λ lane. lane.end in (
      map end c.run_all.new.lanes,
      c.gather-failed.ensures.failed ∙ ap (λ ls. any_failed (map end ls)) same,
      (let l = length-map c.run_all.new.lanes end in let r = c.run_all.auto.lanes in omega (arith, l, r, many)),
      (λ k e f s d lt. lanes-done (λ (lane : Lane g.row.D.Denot g.row.S.Denot g.row.L.Denot g.row.R.Denot g.S.Shelf). seat_port (g.D.Disk.tells && is_some (g.S.Shelf.files lane.reader.layers.shelf)) lane.reader.layers.image.now lane.reader.layers.seat (g.S.Shelf.faults lane.reader.layers.shelf)) (λ (lane : Lane g.row.D.Denot g.row.S.Denot g.row.L.Denot g.row.R.Denot g.S.Shelf). lane.listener) (λ (lane : Lane g.row.D.Denot g.row.S.Denot g.row.L.Denot g.row.R.Denot g.S.Shelf). lane.end) (λ (number : ℕ) (pair : g.row.S.Denot × g.row.L.Denot). first_port (g.D.Disk.tells && is_some (g.S.Shelf.files pair.0)) c.args.image.now number (g.S.Shelf.faults pair.0)) (λ (pair : g.row.S.Denot × g.row.L.Denot). pair.1) g.L.Listener.told g.L.Listener.faults (λ (pair : g.row.S.Denot × g.row.L.Denot). g.S.Shelf.faults pair.0) _ c.args.connections c.gather-failed.new.control.seen c.args.pairs.items c.gather-failed.new.pairs.items c.as_mut_slice.result.now c.run_all.new.lanes c.gather-failed.new.seats.items
          many c.run_all.auto.lanes
          (subst (AreDealt (λ (lane : Lane g.row.D.Denot g.row.S.Denot g.row.L.Denot g.row.R.Denot g.S.Shelf). seat_port (g.D.Disk.tells && is_some (g.S.Shelf.files lane.reader.layers.shelf)) lane.reader.layers.image.now lane.reader.layers.seat (g.S.Shelf.faults lane.reader.layers.shelf)) (λ (lane : Lane g.row.D.Denot g.row.S.Denot g.row.L.Denot g.row.R.Denot g.S.Shelf). lane.listener) (λ (number : ℕ) (pair : g.row.S.Denot × g.row.L.Denot). first_port (g.D.Disk.tells && is_some (g.S.Shelf.files pair.0)) c.args.image.now number (g.S.Shelf.faults pair.0)) (λ (pair : g.row.S.Denot × g.row.L.Denot). pair.1) c.args.pairs.items) (sym c.as_mut_slice.ensures.value) c.deal.ensures.ports)
          (λ j d inside. c.run_all.ensures.lanes j d inside)
          (subst (λ (ls : List (Lane g.row.D.Denot g.row.S.Denot g.row.L.Denot g.row.R.Denot g.S.Shelf)). AreGathered (λ (lane : Lane g.row.D.Denot g.row.S.Denot g.row.L.Denot g.row.R.Denot g.S.Shelf). seat_port (g.D.Disk.tells && is_some (g.S.Shelf.files lane.reader.layers.shelf)) lane.reader.layers.image.now lane.reader.layers.seat (g.S.Shelf.faults lane.reader.layers.shelf)) (λ (pair : g.row.S.Denot × g.row.L.Denot). g.S.Shelf.faults pair.0) c.gather-failed.new.control.seen ls c.gather-failed.new.seats.items c.gather-failed.new.pairs.items) same c.gather-failed.ensures.each)
          (c.gather-failed.ensures.listeners ∙ ap (map (λ (lane : Lane g.row.D.Denot g.row.S.Denot g.row.L.Denot g.row.R.Denot g.S.Shelf). lane.listener)) same) k e f s d lt),
    )

pub returns-clause-served : goal.returns-clause-served
returns-clause-served g c =
    let other = c.run_all.ensures.other in
    done-from _ _ _ _ _ _ _ c.control_back-seat.result.0 c.gather-failed.new.control c.run_all.new.other.end c.control_back-seat.result.2 c.control_lane-beside.ensures.port c.control_lane-beside.ensures.stream
    other.0 other.2 c.control_back-seat.ensures.seat c.control_back-seat.ensures.faults c.control_back-seat.ensures.stream c.control_back-seat.ensures.end c.gather-failed.ensures.later
