pub mod SplittingFacts
pub mod GroupMaps
pub mod Written
pub mod JoiningFacts
pub mod Reading
pub mod OneJoined
pub mod EventTexts
pub mod SortedGroups
pub mod Again
pub mod Goodness
pub mod Rejoined
pub mod EqualJoined
pub mod Outcomes
mod Cases
