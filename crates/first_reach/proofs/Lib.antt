pub mod Firsts
pub mod Lists
pub mod Marks
pub mod Replies
