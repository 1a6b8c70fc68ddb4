pub mod Worlds
pub mod Models
pub mod Entries
pub mod Audits
pub mod Slots
