pub mod Entering
pub mod Records
pub mod Tables
pub mod Adding
pub mod Lent
pub mod Filling
