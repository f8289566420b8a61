pub mod Cells
pub mod Pieces
pub mod Put
pub mod Segments
