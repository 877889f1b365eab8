pub mod Tokens
pub mod Numerals
pub mod Values
pub mod Naming
pub mod Laws
pub mod Models
