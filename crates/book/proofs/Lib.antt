pub mod Outcomes
pub mod Keeping
pub mod Slots
