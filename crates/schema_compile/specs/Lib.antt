pub mod Compiled
pub mod Placed
pub mod Sources
pub mod Told
