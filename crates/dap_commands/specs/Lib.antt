pub mod Arguments
pub mod Commands
pub mod CommandLine
pub mod LeadingArguments
pub mod Jobs
pub mod Reading
