mod Blocks
pub mod Sameness
