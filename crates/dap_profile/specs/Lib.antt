pub mod PlaceSteps
pub mod ProfileRows
pub mod Profile
pub mod RowRanges
pub mod RowLines
