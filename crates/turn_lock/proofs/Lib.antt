pub mod Dealing
pub mod Ending
pub mod Gathering
pub mod Lists
pub mod Steps
pub mod Takes
