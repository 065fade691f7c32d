pub mod Among
pub mod Gains
pub mod KindOrder
pub mod Sets
pub mod SpotOrder
pub mod Spots
