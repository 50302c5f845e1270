pub mod Step
pub mod Fold
pub mod SetUp
pub mod Law
pub mod Hindered
