pub mod CellLaws
pub mod ChangeLaws
pub mod ClearLaws
pub mod Halving
pub mod JoinLaws
pub mod LeafLaws
pub mod PieceLaws
pub mod PutLaws
pub mod RestLaws
mod RunSteps
pub mod SortedLaws
