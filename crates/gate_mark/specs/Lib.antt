pub mod Mark
pub mod MarkFile
pub mod Sets
pub mod Shown
pub mod Through
