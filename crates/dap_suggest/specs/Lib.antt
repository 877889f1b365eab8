pub mod Broad
pub mod Exchanges
pub mod Guarded
pub mod Hidden
pub mod NotSuggested
pub mod Suggested
