pub mod SmallReach
