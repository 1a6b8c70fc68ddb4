pub mod Cases
pub mod Bytes
pub mod Fields
pub mod Spellings
pub mod Entries
pub mod Outcomes
pub mod Progress
