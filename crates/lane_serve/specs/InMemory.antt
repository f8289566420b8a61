-- What a listener in memory tells.
use Rattle.std.specs.Prelude.{ℕ, Bool, false, List, [], map, take}
use Rattle.byte_ports.specs.InMemory.{SourceState, SinkState}
use Rattle.lane_serve.specs.declared.in_memory.TakenBack.{TakenBack}
use Rattle.lane_serve.specs.Listeners.{Listening, Taken}

-- a listener in memory: all connections, the numbers of the calls that fail, the number of the next call, how many
-- connections were given, whether it was said that no more come, those that came back, how many calls found no memory, and
-- the faults so far
pub record ListenerState (E : Type 0) : Type 0 where
  pub connections : List (List ℕ)
  pub failing : List ℕ
  pub calls : ℕ
  pub count : ℕ
  pub ended : Bool
  pub back : List (TakenBack E)
  pub wants : ℕ
  pub faults : ℕ

abbrev pub new_listener : {E : Type 0} → List (List ℕ) → List ℕ → ListenerState E
new_listener connections failing =
    record { connections = connections; failing = failing; calls = 0; count = 0; ended = false; back = []; wants = 0; faults = 0 }

-- a source of bytes and an empty sink, as they are given
abbrev pub source_of : List ℕ → SourceState
source_of bytes = record { left = bytes; failing = []; calls = 0; faults = 0 }

abbrev pub sink_of : SinkState
sink_of = record { bytes = []; failing = []; calls = 0; wants = 0; faults = 0 }

abbrev pub given_by : List (List ℕ) → List (SourceState × SinkState)
given_by connections = map (λ bytes. (source_of bytes, sink_of)) connections

abbrev pub taken_by : {E : Type 0} → TakenBack E → Taken SourceState SinkState E
taken_by t = record { source = t.source; sink = t.sink; end = t.end }

abbrev pub told_by : {E : Type 0} → ListenerState E → Listening SourceState SinkState E
told_by s = record { given = given_by (take s.count s.connections); ended = s.ended; taken = map taken_by s.back }
