pub mod Exchange
pub mod Http
