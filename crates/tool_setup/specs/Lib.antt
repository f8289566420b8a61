pub mod Gives
pub mod Verbs
pub mod Values
pub mod Taken
pub mod Words
pub mod Fields
pub mod Configs
