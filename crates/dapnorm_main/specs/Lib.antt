pub mod Unexplained
pub mod Usage
