mod Answered
pub mod ExampleFacts
mod FitsLaws
mod LineLaws
mod Numbers
mod Parts
mod PlainFacts
mod Served
