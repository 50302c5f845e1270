pub mod Markers
pub mod Readings
pub mod Calls
pub mod Check
pub mod Hindered
