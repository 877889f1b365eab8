pub mod Lines
pub mod NoLines
pub mod Unexplained
