pub mod Grammar
pub mod Language
pub mod Fault
pub mod Trees
pub mod Reading
pub mod Gives
pub mod Position
pub mod Told
