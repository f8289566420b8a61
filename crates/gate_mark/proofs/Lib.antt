pub mod Front
pub mod InTurn
pub mod NewFile
pub mod Runs
pub mod Settled
pub mod SlotWrites
