mod Asking
mod Common
mod Importing
mod Naming
