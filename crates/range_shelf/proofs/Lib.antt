pub mod BlockReads
pub mod RangeFiles
pub mod RangeReads
