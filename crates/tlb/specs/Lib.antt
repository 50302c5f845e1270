pub mod Lookup
pub mod Purging
