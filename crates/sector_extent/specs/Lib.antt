pub mod Calls
pub mod CauseLaws
pub mod Causes
pub mod Places
pub mod Rows
