mod Keys
mod Listing
