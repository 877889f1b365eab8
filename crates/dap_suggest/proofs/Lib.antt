pub mod Lists
pub mod Refusals
pub mod Confirmations
pub mod AlreadySame
pub mod NeededSwaps
pub mod HiddenValues
pub mod UnchangedTexts
