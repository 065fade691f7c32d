mod Common
pub mod Nested
mod NoneMade
pub mod Free
mod OptionRows
mod OptionsRise
mod MadeOneofs
mod OneofIndexes
mod MemberIndexes
mod MessageLaws
