mod Common
pub mod Sums
pub mod Legal
pub mod Steps
pub mod Replay
pub mod MarkSteps
pub mod Paying
pub mod PieceRows
pub mod Together
pub mod Giving
