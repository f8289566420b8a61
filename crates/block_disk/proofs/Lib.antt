pub mod Calls
pub mod Copies
pub mod Marks
pub mod Moments
pub mod Puts
