pub mod Committing
pub mod Seats
