pub mod Carried
pub mod First
pub mod Seats
pub mod Reply
pub mod Laws
