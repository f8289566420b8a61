pub mod Tags
pub mod Blocks
pub mod Faults
pub mod RawFields
