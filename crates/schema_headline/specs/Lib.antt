pub mod Describe
pub mod Headline
