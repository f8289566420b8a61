pub mod HistoryLaws
pub mod KeyLaws
pub mod TurnLaws
