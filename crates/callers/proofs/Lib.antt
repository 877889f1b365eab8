pub mod JoinedPieces
pub mod ReadBack
pub mod WholeInput
