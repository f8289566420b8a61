pub mod InfoLaws
pub mod OptionLaws
pub mod RequestLaws
