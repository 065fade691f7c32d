pub mod PlacesWithin
pub mod Spots
pub mod FileWithin
pub mod LocalPlaces
pub mod AfterFirst
pub mod OneLocal
pub mod Ruled
