pub mod Turns
pub mod Commits
pub mod Closed
