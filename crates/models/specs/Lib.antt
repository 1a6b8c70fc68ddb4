pub mod Elements
pub mod Targets
pub mod Writing
pub mod Props
