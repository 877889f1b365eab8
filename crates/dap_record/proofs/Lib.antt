pub mod TraceOutcomes
pub mod TracePieces
pub mod TraceSteps
pub mod RawRunLoop
pub mod TracingLoop
pub mod PieceLoop
pub mod TraceAnswers
