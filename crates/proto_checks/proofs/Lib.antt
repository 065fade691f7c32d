pub mod Clashes
mod Common
pub mod Earliest
pub mod Elements
pub mod Intervals
pub mod Items
pub mod Named
pub mod Settling
