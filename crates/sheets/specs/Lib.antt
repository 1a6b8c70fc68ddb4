pub mod Sheets
pub mod Lists
pub mod Held
pub mod Tags
pub mod Fields
