use Rattle.std.proofs.Common.{rules, false, List, All, sym, subst}
use denote.Param.Send.{sendable, given_send, given_sync}
use Rattle.lane_serve.specs.Listeners.{IsFresh}
use Rattle.lane_export.specs.declared.lanes.Lane.{Lane}
use Rattle.lane_export.specs.Ran.{AllRan}
use Rattle.lane_export.proofs.lanes.run_all.Goals as goal

pub work_beside-requires-clause-call : goal.work_beside-requires-clause-call
work_beside-requires-clause-call g c κs bounds p is =
    let there : All (λ (lane : Lane g.row.D.Denot g.row.S.Denot g.row.L.Denot g.row.R.Denot g.S.Shelf). IsFresh (g.L.Listener.told lane.listener)) p.now = subst (All (λ (lane : Lane g.row.D.Denot g.row.S.Denot g.row.L.Denot g.row.R.Denot g.S.Shelf). IsFresh (g.L.Listener.told lane.listener))) (sym is) c.requires.fresh in
    ((search (sendable, given_sync, c.type_bounds), search (sendable, given_send, c.type_bounds), search (sendable, given_send, c.type_bounds), search (sendable, given_send, c.type_bounds), there), search (sendable, given_send, given_sync, c.type_bounds))

pub returns-clause-lanes : goal.returns-clause-lanes
returns-clause-lanes g c =
    let h = c.work_beside.ensures.call in
    let ran : AllRan g.D.Disk.tells g.S.Shelf.files g.S.Shelf.faults g.L.Listener.told g.L.Listener.faults (record { left = g.L.A.Source.left; reads = g.L.A.Source.faults; written = g.L.B.Sink.written; writes = g.L.B.Sink.faults; takes = false; export = c.args.export.now }) c.args.connections h.argument.now h.after_call.now = search (rules, h.call) in
    subst (λ (ys : List (Lane g.row.D.Denot g.row.S.Denot g.row.L.Denot g.row.R.Denot g.S.Shelf)). AllRan g.D.Disk.tells g.S.Shelf.files g.S.Shelf.faults g.L.Listener.told g.L.Listener.faults (record { left = g.L.A.Source.left; reads = g.L.A.Source.faults; written = g.L.B.Sink.written; writes = g.L.B.Sink.faults; takes = false; export = c.args.export.now }) c.args.connections c.args.lanes.now ys) h.left (subst (λ (xs : List (Lane g.row.D.Denot g.row.S.Denot g.row.L.Denot g.row.R.Denot g.S.Shelf)). AllRan g.D.Disk.tells g.S.Shelf.files g.S.Shelf.faults g.L.Listener.told g.L.Listener.faults (record { left = g.L.A.Source.left; reads = g.L.A.Source.faults; written = g.L.B.Sink.written; writes = g.L.B.Sink.faults; takes = false; export = c.args.export.now }) c.args.connections xs h.after_call.now) h.argument_is ran)
