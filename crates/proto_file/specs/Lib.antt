pub mod Local
pub mod Places
