pub mod Layout
pub mod Drawing
