pub mod Entries
pub mod Purged
