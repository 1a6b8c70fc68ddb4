pub mod Ranges
pub mod Zeros
pub mod Marking
pub mod Chaining
pub mod Joins
pub mod Successors
pub mod Findings
pub mod Slots
