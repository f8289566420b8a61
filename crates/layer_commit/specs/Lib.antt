pub mod Fitting
pub mod Laying
pub mod Sources
pub mod View
pub mod Segments
pub mod Gathered
