pub mod Descriptor
