pub mod Answer
pub mod ReachLaws
pub mod Reply
pub mod Response
pub mod ResponseSteps
pub mod ProgramAnswers
