pub mod LeadingArguments
pub mod WorkedLines
