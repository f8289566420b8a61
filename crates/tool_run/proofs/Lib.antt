pub mod Tools
