mod AnsweringBody
mod Carrying
mod Common
mod Constants
mod Declaring
mod Extending
mod Numbering
mod ReadBounds
mod RepliesMore
mod Short
mod ShortReplies
pub mod OneResponse
