pub mod Named
mod Neighbours
mod Taking
