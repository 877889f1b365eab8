pub mod Differences
pub mod Telling
pub mod Windows
pub mod Lines
pub mod Shown
pub mod TellingSteps
pub mod Laws
