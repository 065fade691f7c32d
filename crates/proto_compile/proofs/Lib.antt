pub mod Alike
mod Common
pub mod LeastFault
pub mod Making
pub mod OneCompilation
pub mod OneTyping
pub mod Placing
pub mod Sorting
