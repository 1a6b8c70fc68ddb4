pub mod Masks
pub mod Words
pub mod Checking
pub mod Numbers
