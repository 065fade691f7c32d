mod Tabling
pub mod Rising
pub mod Within
