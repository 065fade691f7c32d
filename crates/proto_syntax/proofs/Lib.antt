pub mod Begins
mod Common
pub mod Reach
pub mod Deeper
pub mod Prefix
pub mod Steps
pub mod Loops
pub mod Levels
pub mod Items
pub mod Faults
pub mod Unique
pub mod SameFiles
