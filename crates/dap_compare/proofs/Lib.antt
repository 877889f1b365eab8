pub mod ComparingLoop
pub mod OneVerdict
pub mod SomeVerdict
pub mod StreamComparing
pub mod Verdicts
pub mod LeftTexts
pub mod SessionComparing
