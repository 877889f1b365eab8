pub mod Tracing
pub mod TracingRun
pub mod TracingSteps
