pub mod Connections
pub mod Exchange
pub mod Messages
pub mod Receiving
pub mod Responses
