pub mod Found
pub mod FaultSpots
pub mod OwnFaults
pub mod PassFaults
