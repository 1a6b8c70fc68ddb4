pub mod Counting
pub mod Deciding
pub mod Marking
pub mod Meanings
pub mod Rows
pub mod Worlds
