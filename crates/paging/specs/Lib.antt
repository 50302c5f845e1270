pub mod Plan
pub mod Address
pub mod Numbers
