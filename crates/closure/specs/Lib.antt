pub mod Closures
pub mod Rules
pub mod Soundness
pub mod Canonical
pub mod Counts
pub mod Verdicts
pub mod Examples
