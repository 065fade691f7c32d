pub mod FrameRows
pub mod RequestRows
pub mod StreamRows
