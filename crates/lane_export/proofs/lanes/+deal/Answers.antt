use Rattle.std.proofs.Common.{◌≡◌, ℕ, ◌+◌, ◌∙◌, ◌&&◌, is_some, [], length, false, refl, ap, arith, length-append}
use Rattle.flat_image.specs.declared.act.Act.{Act}
use Rattle.turn_lock.specs.Locks.{Place, place}
use Rattle.shared_image.specs.Turns.{seat_port}
use Rattle.lane_export.specs.declared.lanes.Lane.{Lane}
use Rattle.lane_export.specs.Lanes.{first_port}
use Rattle.lane_export.proofs.Rows.{first-last, dealt-joined}
use Rattle.lane_export.proofs.lanes.+deal.Goals as goal

pub returns-clause-ports : goal.returns-clause-ports
returns-clause-ports g n c =
    let id = c.args.image.now.id in
    let rest = c.pop.new.self.items in
    let seats = c.pop-2.new.self.items in
    let a : length c.args.pairs.items ≡ length rest + 1 = ap (λ l. length l) c.in-Some.ensures.items ∙ length-append rest _ in
    let b : length c.args.seats.items ≡ length seats + 1 = ap (λ l. length l) c.in-Some-pop.ensures.items ∙ length-append seats _ in
    let same = c.requires.same in
    let count : length seats ≡ length rest = omega (arith, a, b, same) in
    let seat_is : c.in-Some-pop.seat ≡ place id (length rest) [] false = first-last id c.args.seats.items seats c.in-Some-pop.seat c.in-Some-pop.ensures.items c.requires.seats ∙ ap (λ (m : ℕ). place id m [] false) count in
    dealt-joined (λ (lane : Lane g.row.D.Denot g.row.S.Denot g.row.L.Denot g.row.R.Denot g.S.Shelf). seat_port (g.D.Disk.tells && is_some (g.S.Shelf.files lane.reader.layers.shelf)) lane.reader.layers.image.now lane.reader.layers.seat (g.S.Shelf.faults lane.reader.layers.shelf)) (λ (lane : Lane g.row.D.Denot g.row.S.Denot g.row.L.Denot g.row.R.Denot g.S.Shelf). lane.listener) (λ (number : ℕ) (pair : g.row.S.Denot × g.row.L.Denot). first_port (g.D.Disk.tells && is_some (g.S.Shelf.files pair.0)) c.args.image.now number (g.S.Shelf.faults pair.0)) (λ (pair : g.row.S.Denot × g.row.L.Denot). pair.1) c.args.pairs.items rest c.push_reserved.new.self.items c.deal.new.lanes.items (c.in-Some.shelf, c.in-Some.listener) _
    c.in-Some.ensures.items c.push_reserved.ensures.items c.deal.ensures.count c.deal.ensures.ports
    (c.new-reader.ensures ∙ ap (λ (s : Place Act). seat_port (g.D.Disk.tells && is_some (g.S.Shelf.files c.in-Some.shelf)) c.args.image.now s (g.S.Shelf.faults c.in-Some.shelf)) seat_is) refl
