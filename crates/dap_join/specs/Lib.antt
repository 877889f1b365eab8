pub mod Outputs
pub mod Joined
pub mod Joining
pub mod JoiningSteps
pub mod Laws
