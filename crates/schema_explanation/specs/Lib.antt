pub mod Page
pub mod Table
pub mod Topics
