pub mod Conclusions
pub mod Choices
pub mod Meets
