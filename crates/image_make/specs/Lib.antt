pub mod Draws
pub mod Acts
pub mod Sums
pub mod Lines
pub mod Examples
pub mod Making
pub mod Steps
pub mod NoLayers
