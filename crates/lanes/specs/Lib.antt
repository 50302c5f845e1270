pub mod Lanes
pub mod Bytes
