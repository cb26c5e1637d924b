pub mod Refusal
pub mod Ruling
