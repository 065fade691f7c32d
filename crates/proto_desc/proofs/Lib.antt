pub mod Declared
pub mod Raised
pub mod Resolves
