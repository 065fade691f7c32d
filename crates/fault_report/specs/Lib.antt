pub mod Excerpts
pub mod Lines
pub mod Shown
pub mod Tokens
pub mod Windows
