pub mod Under
pub mod Asking
