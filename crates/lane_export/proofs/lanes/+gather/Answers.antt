use Rattle.std.proofs.Common.{◌≡◌, ℕ, ◌+◌, ◌∙◌, ◌&&◌, is_some, length, sym, ap, arith, length-append}
use Rattle.shared_image.specs.Turns.{home_of, seat_port}
use Rattle.lane_export.specs.declared.lanes.Lane.{Lane}
use Rattle.lane_export.specs.Lanes.{first_port}
use Rattle.lane_export.proofs.Rows.{one-home, later-self, later-trans, same-length, failed-joined, all-front, all-last, gathered-joined}
use Rattle.lane_export.proofs.lanes.+gather.Goals as goal

pub returns-in_default-clause-later : goal.returns-in_default-clause-later
returns-in_default-clause-later g n c = later-self c.args.control.now

pub gather-failed-requires-clause-homes : goal.gather-failed-requires-clause-homes
gather-failed-requires-clause-homes g n c κs bounds =
    all-front (λ (lane : Lane g.row.D.Denot g.row.S.Denot g.row.L.Denot g.row.R.Denot g.S.Shelf). home_of lane.reader.layers.seat.lock ≡ home_of c.args.image.now.id) c.args.lanes.items c.pop.new.self.items c.in-Some.lane c.in-Some.ensures.items c.requires.homes

pub meet-requires : goal.meet-requires
meet-requires g n c = record {
  lock = (
    one-home c.into_parts-seat.result.0.lock c.args.image.now.id (sym c.into_parts-seat.ensures.seat.home
        ∙ all-last (λ (lane : Lane g.row.D.Denot g.row.S.Denot g.row.L.Denot g.row.R.Denot g.S.Shelf). home_of lane.reader.layers.seat.lock ≡ home_of c.args.image.now.id) c.args.lanes.items c.pop.new.self.items c.in-Some.lane c.in-Some.ensures.items c.requires.homes),
    c.gather-failed.ensures.same.lock ∙ c.requires.control.lock_is,
  );
}

pub returns-clause-each : goal.returns-clause-each
returns-clause-each g n c =
    let lane : _ → g.row.L.Denot = λ (lane : Lane g.row.D.Denot g.row.S.Denot g.row.L.Denot g.row.R.Denot g.S.Shelf). lane.listener in
    let many : length c.gather-failed.new.pairs.items ≡ length c.pop.new.self.items = same-length (λ (pair : g.row.S.Denot × g.row.L.Denot). pair.1) lane c.gather-failed.new.pairs.items c.pop.new.self.items c.gather-failed.ensures.listeners in
    gathered-joined (λ (lane : Lane g.row.D.Denot g.row.S.Denot g.row.L.Denot g.row.R.Denot g.S.Shelf). seat_port (g.D.Disk.tells && is_some (g.S.Shelf.files lane.reader.layers.shelf)) lane.reader.layers.image.now lane.reader.layers.seat (g.S.Shelf.faults lane.reader.layers.shelf)) (λ (lane : Lane g.row.D.Denot g.row.S.Denot g.row.L.Denot g.row.R.Denot g.S.Shelf). lane.listener) (λ (number : ℕ) (pair : g.row.S.Denot × g.row.L.Denot). first_port (g.D.Disk.tells && is_some (g.S.Shelf.files pair.0)) c.args.image.now number (g.S.Shelf.faults pair.0)) (λ (pair : g.row.S.Denot × g.row.L.Denot). pair.1) (λ (pair : g.row.S.Denot × g.row.L.Denot). g.S.Shelf.faults pair.0) c.meet.new.to.seen c.gather-failed.new.control.seen c.args.lanes.items c.pop.new.self.items c.push_reserved.new.self.items c.gather-failed.new.seats.items c.push_reserved-2.new.self.items c.gather-failed.new.pairs.items c.in-Some.lane c.into_parts-seat.result.0 c.meet.new.from (c.into_parts-seat.result.1, c.in-Some.lane.listener)
    c.in-Some.ensures.items c.push_reserved.ensures.items c.push_reserved-2.ensures.items c.meet.ensures.from c.gather-failed.ensures.each c.meet.ensures.later.seen many c.into_parts-seat.ensures.seat c.meet.ensures.seen

pub returns-clause-later : goal.returns-clause-later
returns-clause-later g n c = later-trans c.args.control.now c.gather-failed.new.control c.meet.new.to c.gather-failed.ensures.later c.meet.ensures.later

pub push_reserved-requires-2 : goal.push_reserved-requires-2
push_reserved-requires-2 g n c =
    let lane : _ → g.row.L.Denot = λ (lane : Lane g.row.D.Denot g.row.S.Denot g.row.L.Denot g.row.R.Denot g.S.Shelf). lane.listener in
    let many : length c.gather-failed.new.pairs.items ≡ length c.pop.new.self.items = same-length (λ (pair : g.row.S.Denot × g.row.L.Denot). pair.1) lane c.gather-failed.new.pairs.items c.pop.new.self.items c.gather-failed.ensures.listeners in
    let a : length c.args.lanes.items ≡ length c.pop.new.self.items + 1 = ap (λ l. length l) c.in-Some.ensures.items ∙ length-append c.pop.new.self.items _ in
    let cap = c.gather-failed.ensures.capacity.1 in let room = c.requires.pair_room.1 in let ok = c.gather-failed.new.pairs.ok in
    omega (arith, many, a, cap, room, ok)

pub returns-clause-failed : goal.returns-clause-failed
returns-clause-failed g n c =
    c.either.ensures ∙ failed-joined (λ (lane : Lane g.row.D.Denot g.row.S.Denot g.row.L.Denot g.row.R.Denot g.S.Shelf). lane.end) c.args.lanes.items c.pop.new.self.items c.in-Some.lane c.gather-failed.result c.has_failed.result
    c.in-Some.ensures.items c.gather-failed.ensures.failed c.has_failed.ensures
