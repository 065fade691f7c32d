pub mod Options
pub mod Statements
