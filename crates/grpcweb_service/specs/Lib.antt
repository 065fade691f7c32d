pub mod Responses
pub mod Services
