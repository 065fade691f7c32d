pub mod Folder
pub mod Kinds
pub mod Ordered
pub mod Paths
pub mod Reasons
pub mod Troubles
pub mod Walking
