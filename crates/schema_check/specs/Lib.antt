pub mod Added
pub mod Escapes
pub mod Open
pub mod Reports
pub mod Runs
pub mod Texts
pub mod Told
pub mod Written
