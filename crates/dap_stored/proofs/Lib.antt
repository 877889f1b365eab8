pub mod Contents
pub mod OwnNumbers
pub mod Growth
pub mod Storing
pub mod PlacedMessages
mod PlacedHeads
