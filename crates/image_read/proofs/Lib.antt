pub mod Filling
pub mod Layering
pub mod Headlines
