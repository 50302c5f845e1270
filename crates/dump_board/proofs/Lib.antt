pub mod Directories
pub mod Dumps
