use Rattle.std.proofs.Common.{rules, ℕ, Bool, false, List, slice_index_or, Option, subst}
use Rattle.image_read.specs.Reading.{reader_port}
use Rattle.nbd_session.specs.declared.served.Served.{Served}
use Rattle.lane_serve.specs.Listeners.{Listening}
use Rattle.lane_serve.specs.Lanes.{Ways, Runs}
use Rattle.lane_export.specs.declared.lanes.Lane.{Lane}
use Rattle.lane_export.proofs.lanes.run_lanes.Goals as goal

-- a lane ran, from what it was to what it is
abbrev Ran : {D S L R A B : Type 0} {k : _} → Bool → (S → Option (List (List ℕ))) → (S → ℕ) → (L → Option (Listening A B Served)) → (L → ℕ) → Ways A B → ℕ → Lane D S L R k → Lane D S L R k → Type 0
Ran tells files count told faults w connections x y =
    Runs w (told x.listener) (faults x.listener) (reader_port tells (files x.reader.layers.shelf) x.reader.layers.image.now x.reader.layers.seat (count x.reader.layers.shelf))
    (told y.listener) (faults y.listener) (reader_port tells (files y.reader.layers.shelf) y.reader.layers.image.now y.reader.layers.seat (count y.reader.layers.shelf)) connections y.end

pub returns : goal.returns
returns g c = λ k d lt.
    let h = (c.for_each_mut.ensures k d lt).1 in
    let called = h.call in
    let ran : Ran g.D.Disk.tells g.S.Shelf.files g.S.Shelf.faults g.L.Listener.told g.L.Listener.faults (record { left = g.L.A.Source.left; reads = g.L.A.Source.faults; written = g.L.B.Sink.written; writes = g.L.B.Sink.faults; takes = false; export = c.args.export.now }) c.args.connections h.argument.now h.after_call.now = search rules in
    subst (λ (y : Lane g.row.D.Denot g.row.S.Denot g.row.L.Denot g.row.R.Denot g.S.Shelf). Ran g.D.Disk.tells g.S.Shelf.files g.S.Shelf.faults g.L.Listener.told g.L.Listener.faults (record { left = g.L.A.Source.left; reads = g.L.A.Source.faults; written = g.L.B.Sink.written; writes = g.L.B.Sink.faults; takes = false; export = c.args.export.now }) c.args.connections (slice_index_or c.args.lanes.now k d) y) h.left
    (subst (λ (x : Lane g.row.D.Denot g.row.S.Denot g.row.L.Denot g.row.R.Denot g.S.Shelf). Ran g.D.Disk.tells g.S.Shelf.files g.S.Shelf.faults g.L.Listener.told g.L.Listener.faults (record { left = g.L.A.Source.left; reads = g.L.A.Source.faults; written = g.L.B.Sink.written; writes = g.L.B.Sink.faults; takes = false; export = c.args.export.now }) c.args.connections x h.after_call.now) h.argument_is ran)
