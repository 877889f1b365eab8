pub mod AskedRows
mod KindRows
pub mod EmptyLines
