pub mod Meanings
pub mod Tables
pub mod Names
pub mod Limiting
