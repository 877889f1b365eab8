pub mod Golden
pub mod GoldenFiles
pub mod GoldenForms
pub mod GoldenSteps
pub mod GoldenUpdates
pub mod Laws
pub mod TraceHead
