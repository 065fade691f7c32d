pub mod Field
pub mod Reading
pub mod ReadingSteps
pub mod Varint
pub mod Writing
pub mod ProgramFields
