pub mod Blocks
pub mod CacheHistory
pub mod CacheTurns
pub mod CacheExamples
