pub mod Arriving
pub mod Compared
pub mod Frames
pub mod Golden
pub mod Pieces
