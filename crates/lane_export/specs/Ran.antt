-- Lanes that ran, one by one.
use Rattle.std.specs.Prelude.{ℕ, ◌<◌, Bool, List, length, slice_index_or, Option}
use Rattle.image_read.specs.Reading.{reader_port}
use Rattle.nbd_session.specs.declared.served.Served.{Served}
use Rattle.lane_serve.specs.Listeners.{Listening}
use Rattle.lane_serve.specs.Lanes.{Ways, Runs}
use Rattle.lane_export.specs.declared.lanes.Lane.{Lane}

-- a lane ran, from what it was to what it is
abbrev pub Ran : {D S L R A B : Type 0} {k : _} → Bool → (S → Option (List (List ℕ))) → (S → ℕ) → (L → Option (Listening A B Served)) → (L → ℕ) → Ways A B → ℕ → Lane D S L R k → Lane D S L R k → Type 0
Ran tells files count told faults w connections x y =
    Runs w (told x.listener) (faults x.listener) (reader_port tells (files x.reader.layers.shelf) x.reader.layers.image.now x.reader.layers.seat (count x.reader.layers.shelf))
    (told y.listener) (faults y.listener) (reader_port tells (files y.reader.layers.shelf) y.reader.layers.image.now y.reader.layers.seat (count y.reader.layers.shelf)) connections y.end

-- and so did all of them
abbrev pub AllRan : {D S L R A B : Type 0} {k : _} → Bool → (S → Option (List (List ℕ))) → (S → ℕ) → (L → Option (Listening A B Served)) → (L → ℕ) → Ways A B → ℕ → List (Lane D S L R k) → List (Lane D S L R k) → Type 0
AllRan {D} {S} {L} {R} {A} {B} {k} tells files count told faults w connections xs ys =
    (i : ℕ) (d : Lane D S L R k) → i < length xs → Ran tells files count told faults w connections (slice_index_or xs i d) (slice_index_or ys i d)
