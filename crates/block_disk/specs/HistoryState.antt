-- The record of a disk in memory, as a state of a disk.
use Rattle.std.specs.Prelude.{List, reverse}
use Rattle.block_disk.specs.declared.history.DiskCall.{DiskCall}
use Rattle.block_disk.specs.declared.history.History.{History}
use Rattle.block_disk.specs.DiskState.{DiskState, Files}
use Rattle.block_disk.specs.FileMap.{bytes_in}
use Rattle.block_disk.specs.History.{state_after}

-- the calls that changed or synced a file, the newest first
abbrev pub past_of : History → List DiskCall
past_of history = reverse history.calls.items

-- the files at the start
abbrev pub start_of : History → Files
start_of history = bytes_in history.start

abbrev pub state_of : History → DiskState
state_of history = state_after (start_of history) (past_of history)
