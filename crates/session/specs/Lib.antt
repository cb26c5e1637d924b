pub mod Shape
pub mod Bytes
pub mod Runs
