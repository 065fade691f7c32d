pub mod Calls
pub mod Counting
pub mod Filling
pub mod Memory
pub mod Runs
pub mod Streams
