pub mod Built
mod Common
pub mod Starting
pub mod Once
pub mod Ordered
pub mod Searching
pub mod Tabled
pub mod Unique
mod Listing
mod EntryLemmas
mod Repeating
mod Parting
