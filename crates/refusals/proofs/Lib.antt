pub mod Ruling
pub mod Numbers
