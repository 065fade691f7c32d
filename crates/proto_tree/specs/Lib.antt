pub mod Items
pub mod KeyTypes
pub mod Lists
pub mod Name
pub mod Ranges
pub mod Text
