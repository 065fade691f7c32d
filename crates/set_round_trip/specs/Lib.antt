pub mod ButPlaces
pub mod Fits
pub mod Readable
