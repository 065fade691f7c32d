mod AllBad
mod Common
mod Faulting
pub mod NameRows
mod Positions
pub mod Rising
pub mod Unique
pub mod Whole
