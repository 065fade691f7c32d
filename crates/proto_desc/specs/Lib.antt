pub mod DeclaredNames
pub mod JsonNames
pub mod JsonOrigins
pub mod Places
pub mod Resolved
pub mod Rules
pub mod WholeNumber
