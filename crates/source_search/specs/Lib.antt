pub mod Folders
pub mod Imports
pub mod Searching
pub mod Shelves
pub mod Wanted
