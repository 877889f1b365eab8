pub mod Compacting
pub mod CompactingSteps
