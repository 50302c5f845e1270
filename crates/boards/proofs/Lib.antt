pub mod Stores
pub mod Pairs
