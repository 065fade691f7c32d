pub mod Blanking
mod Losses
mod Naming
