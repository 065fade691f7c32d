mod Common
mod Meanings
mod Recalls
pub mod Walking
pub mod Trees
pub mod Unique
mod Scoping
