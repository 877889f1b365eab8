pub mod Past
pub mod Runs
pub mod Sending
pub mod Windows
