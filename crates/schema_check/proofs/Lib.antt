pub mod Opening
pub mod Reporting
pub mod Running
pub mod Showing
pub mod Telling
