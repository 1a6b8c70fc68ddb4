pub mod Books
pub mod Owned
