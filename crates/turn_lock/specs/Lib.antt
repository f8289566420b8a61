pub mod Locks
pub mod Passes
pub mod Plays
pub mod Ruled
