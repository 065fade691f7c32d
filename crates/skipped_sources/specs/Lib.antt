pub mod Losing
pub mod Lost
pub mod Options
pub mod Shelves
