pub mod Tags
mod Ways
mod Turns
pub mod Walks
pub mod Alike
mod Listing
