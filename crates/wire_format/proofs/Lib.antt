pub mod ReadingRows
pub mod Varints
