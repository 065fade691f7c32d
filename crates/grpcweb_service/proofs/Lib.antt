mod Fields
mod Statuses
