mod Scans
pub mod Behind
mod Closing
mod Going
pub mod Entries
pub mod Fronts
pub mod Blanks
mod Lengths
mod TokenEnds
mod LineEnds
pub mod Plain
