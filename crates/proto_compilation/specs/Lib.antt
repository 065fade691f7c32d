pub mod Alike
pub mod Compilation
pub mod Extensions
pub mod Parts
pub mod Sound
