pub mod Image
pub mod Running
pub mod Table
