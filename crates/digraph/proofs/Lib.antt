pub mod Closing
mod Common
pub mod Joining
pub mod Levels
pub mod Renumbering
pub mod Rows
pub mod Sharing
