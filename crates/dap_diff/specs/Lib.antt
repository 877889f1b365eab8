pub mod Diffs
pub mod Texts
pub mod RecordLines
pub mod Matching
pub mod Entries
pub mod JointNumbers
pub mod Sessions
