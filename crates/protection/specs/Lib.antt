pub mod Permission
