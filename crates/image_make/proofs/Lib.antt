pub mod SumLaws
pub mod StepLaws
pub mod DrawLaws
pub mod MadeLaws
pub mod ToldLaws
