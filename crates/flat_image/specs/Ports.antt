-- What a caller of an image has seen, what its calls note, and when each refusal comes.
use Rattle.std.specs.Prelude.{◌≡◌, ℕ, ◌+◌, ◌^◌, ◌<◌, ◌≤◌, ◌⊎◌, Bool, IsTrue, true, List, [], ◌∷◌, ◌++◌, length, map, Result, IsErrOf}
use Rattle.sector_extent.specs.Causes.{Charges}
use Rattle.flat_image.specs.declared.act.Act.{Act}
use Rattle.flat_image.specs.declared.act.Act.TheVariants.{Read, Flush, Fault}
use Rattle.flat_image.specs.declared.act.Asked.TheVariants.{Nothing}
use Rattle.flat_image.specs.declared.base.Base.{Base}
use Rattle.flat_image.specs.declared.port_fault.PortFault.{PortFault}
use Rattle.flat_image.specs.declared.port_fault.PortFault.TheVariants.{Worn, Full, Memory, Failed}
use Rattle.flat_image.specs.Entries.{entry, calls_by}
use Rattle.flat_image.specs.History.{History, reply, rows_taken, sectors_taken, used_rows, used_sectors, HasRoom, IsOver}

-- what a caller of an image has: which of the things that stand for a history it belongs to, whether what it reads is
-- told, the base, the number of entries before the history, its own number, the beginning of the history that it has
-- seen, and a count of faults
pub record PortState : Type 0 where
  pub home : List ℕ
  pub tells : Bool
  pub base : Base
  pub first : ℕ
  pub number : ℕ
  pub seen : History
  pub faults : ℕ

-- the history that was seen has as many entries as a history may have
abbrev pub IsWorn : PortState → Type 0
IsWorn port = port.first + length port.seen ≡ 2 ^ 62

-- the same caller later: it has seen more, in which its own acts are these
pub record Notes (old new : PortState) (acts : List Act) : Type 0 where
  pub more : History
  pub is : new ≡ record old { seen = old.seen ++ more; faults = new.faults }
  pub own : calls_by old.number more ≡ map (entry old.number) acts
  pub later : old.faults ≤ new.faults
  pub limit : old.first + length old.seen ≤ 2 ^ 62 → new.first + length new.seen ≤ 2 ^ 62

-- the used rows and sectors have room for the act, and have not
abbrev pub HasRoomFor : Base → History → Act → Type 0
HasRoomFor base seen act = HasRoom (used_rows base seen + rows_taken act) (used_sectors base seen + sectors_taken act)

abbrev pub IsOverFor : Base → History → Act → Type 0
IsOverFor base seen act = IsOver (used_rows base seen + rows_taken act) (used_sectors base seen + sectors_taken act)

-- the bytes are the image's at the place of the read in the history
pub record Reads (old new : PortState) (at count : ℕ) (bytes : List ℕ) : Type 0 where
  pub notes : Notes old new (Read at count ∷ [])
  pub before : History
  pub behind : History
  pub seen : new.seen ≡ (old.seen ++ before) ++ (entry old.number (Read at count) ∷ behind)
  pub sectors : IsTrue old.tells → bytes ≡ reply old.base (old.seen ++ before) at count

-- the call noted this act last, and before it there was room for the one that was asked for
pub record NotesLast (old new : PortState) (noted asked : Act) : Type 0 where
  pub notes : Notes old new (noted ∷ [])
  pub before : History
  pub seen : new.seen ≡ (old.seen ++ before) ++ entry old.number noted ∷ []
  pub room : HasRoomFor old.base (old.seen ++ before) asked

-- the count of faults rises just where a call failed
abbrev pub fault_count : PortState → ℕ
fault_count port = port.faults

abbrev pub ChargesPort : {T : Type 0} → PortState → PortState → Result T PortFault → Type 0
ChargesPort old new result = Charges fault_count old new (IsErrOf result Failed)

-- a read that is refused. Memory is wanting only where the history may have more entries
abbrev pub ReadFails : PortState → PortState → ℕ → ℕ → PortFault → Type 0
ReadFails old new at count Worn = IsWorn new × (Notes old new [] ⊎ Notes old new (Read at count ∷ []))
ReadFails old new at count (Full rows sectors) = ⊥
ReadFails old new at count Memory = ¬ IsWorn new × (Notes old new [] ⊎ Notes old new (Read at count ∷ []))
ReadFails old new at count Failed = (old.faults < new.faults)
    × (Notes old new (Fault Nothing ∷ []) ⊎ (Notes old new (Read at count ∷ []) ⊎ Notes old new (Read at count ∷ Fault Nothing ∷ [])))

-- a write or a zero that was made, and one that is refused: for want of room only where the history may have more
-- entries, and for want of memory only where there is room too
abbrev pub Makes : PortState → PortState → Act → Type 0
Makes old new act = NotesLast old new act act

abbrev pub ChangeFails : PortState → PortState → Act → PortFault → Type 0
ChangeFails old new act Worn = IsWorn new × Notes old new []
ChangeFails old new act (Full rows sectors) = ¬ IsWorn new × IsOverFor new.base new.seen act × Notes old new []
    × (rows ≡ used_rows new.base new.seen) × (sectors ≡ used_sectors new.base new.seen)
ChangeFails old new act Memory = ¬ IsWorn new × HasRoomFor new.base new.seen act × Notes old new []
ChangeFails old new act Failed = (old.faults < new.faults) × NotesLast old new (Fault Nothing) act

-- a flush that was made noted its entry last, and so all that was seen is kept; and one that is refused, by a port
-- whose flush may take memory or not
pub record Flushes (old new : PortState) : Type 0 where
  pub notes : Notes old new (Flush ∷ [])
  pub before : History
  pub seen : new.seen ≡ (old.seen ++ before) ++ entry old.number Flush ∷ []

abbrev pub FlushFails : Bool → PortState → PortState → PortFault → Type 0
FlushFails takes old new Worn = IsWorn new × Notes old new []
FlushFails takes old new (Full rows sectors) = ⊥
FlushFails takes old new Memory = ¬ IsWorn new × (takes ≡ true) × Notes old new []
FlushFails takes old new Failed = (old.faults < new.faults) × Notes old new (Fault Nothing ∷ [])
