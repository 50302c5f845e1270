pub mod Tabulated
pub mod Splits
pub mod Copies
