pub mod CachedReads
pub mod RangeLaws
pub mod RangeShelves
