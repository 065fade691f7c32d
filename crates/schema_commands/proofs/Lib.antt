pub mod Setting
pub mod Telling
