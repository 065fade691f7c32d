pub mod Joining
pub mod Words
