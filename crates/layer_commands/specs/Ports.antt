-- The objects that a command is handed, at one moment.
use Rattle.std.specs.Prelude.{ℕ, ◌≤◌, List, length, Option, None}
use Rattle.std.specs.Io.KnownBytes.{Consumes}
use Rattle.byte_ports.specs.declared.ports.Source as sources
use Rattle.byte_ports.specs.declared.ports.Sink as sinks
use Rattle.layer_shelf.specs.declared.shelves.Shelf as shelves

-- the bytes left in the source, those written to the sink, the files of the shelf and how many they are, and the faults of
-- each so far
pub record Ports : Type 0 where
  pub left : Option (List ℕ)
  pub source_faults : ℕ
  pub written : Option (List ℕ)
  pub sink_faults : ℕ
  pub files : Option (List (List ℕ))
  pub count : ℕ
  pub shelf_faults : ℕ

-- the same of where notes go
pub record Notes : Type 0 where
  pub written : Option (List ℕ)
  pub faults : ℕ

-- the objects, each as its type tells of it
abbrev pub ports_of : {A B S : Type 0} → sources.Ghosts A → sinks.Ghosts B → shelves.Ghosts S → A → B → S → Ports
ports_of a b s source out shelf = record {
  left = a.left source;
  source_faults = a.faults source;
  written = b.written out;
  sink_faults = b.faults out;
  files = s.files shelf;
  count = s.count shelf;
  shelf_faults = s.faults shelf;
}

abbrev pub notes_of : {C : Type 0} → sinks.Ghosts C → C → Notes
notes_of c notes = record { written = c.written notes; faults = c.faults notes }

-- the objects of a command that has no shelf, and of one that has no source
abbrev pub source_ports : Option (List ℕ) → ℕ → Option (List ℕ) → ℕ → Ports
source_ports left source_faults written sink_faults = record {
  left = left;
  source_faults = source_faults;
  written = written;
  sink_faults = sink_faults;
  files = None;
  count = 0;
  shelf_faults = 0;
}

abbrev pub shelf_ports : Option (List (List ℕ)) → ℕ → ℕ → Option (List ℕ) → ℕ → Ports
shelf_ports files count shelf_faults written sink_faults = record {
  left = None;
  source_faults = 0;
  written = written;
  sink_faults = sink_faults;
  files = files;
  count = count;
  shelf_faults = shelf_faults;
}

abbrev pub by_source : {A B : Type 0} → sources.Ghosts A → sinks.Ghosts B → A → B → Ports
by_source a b source out = source_ports (a.left source) (a.faults source) (b.written out) (b.faults out)

abbrev pub by_shelf : {B S : Type 0} → sinks.Ghosts B → shelves.Ghosts S → B → S → Ports
by_shelf b s out shelf = shelf_ports (s.files shelf) (s.count shelf) (s.faults shelf) (b.written out) (b.faults out)

-- at most so many bytes were taken
abbrev pub TakesAtMost : Option (List ℕ) → Option (List ℕ) → ℕ → Type 0
TakesAtMost old new most = (bytes : List ℕ) × Consumes old new bytes × (length bytes ≤ most)
