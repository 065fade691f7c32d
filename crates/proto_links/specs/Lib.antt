pub mod Graphs
pub mod Imports
pub mod Layout
pub mod Linked
pub mod Positioned
pub mod Visible
pub mod Bad
pub mod Whole
