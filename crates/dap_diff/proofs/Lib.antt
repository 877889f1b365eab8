pub mod ReadTexts
pub mod Texts
pub mod Differing
pub mod EntryLists
pub mod SessionTexts
