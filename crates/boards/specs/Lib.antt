pub mod Ram
pub mod Interleaved
pub mod Stacked
