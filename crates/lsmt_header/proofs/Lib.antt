pub mod TagLemmas
pub mod BlockLemmas
pub mod FaultLemmas
pub mod Written
