pub mod Lending
pub mod Running
pub mod Pinned
pub mod Leaving
