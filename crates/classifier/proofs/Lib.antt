pub mod Asking
pub mod Growing
pub mod Oneness
