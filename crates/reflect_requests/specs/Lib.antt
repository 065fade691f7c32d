pub mod Frames
pub mod FramesSteps
pub mod Request
pub mod RequestSteps
pub mod ProgramFrames
pub mod Laws
