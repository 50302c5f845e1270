pub mod Dump
pub mod Listed
