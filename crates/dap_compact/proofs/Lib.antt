pub mod CompactingFacts
pub mod CompactingLoop
