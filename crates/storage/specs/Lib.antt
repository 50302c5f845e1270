pub mod Words
pub mod Lent
pub mod Bytes
pub mod Copy
