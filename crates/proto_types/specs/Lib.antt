pub mod Recalling
pub mod References
pub mod Typed
pub mod Steps
pub mod Sight
