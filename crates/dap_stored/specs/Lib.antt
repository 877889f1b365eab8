pub mod Contents
pub mod Heads
pub mod Sessions
