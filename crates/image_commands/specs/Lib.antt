pub mod ImageTexts
pub mod ImageReports
pub mod Images
pub mod ImageCauses
pub mod ImageSteps
pub mod Clear
