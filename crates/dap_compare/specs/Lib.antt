pub mod Comparing
pub mod ComparingSteps
pub mod LeftTexts
pub mod SessionSteps
pub mod Sessions
pub mod Verdicts
pub mod Which
