pub mod Splitting
pub mod Testing
pub mod Valuing
pub mod Spelling
pub mod Pairing
pub mod Putting
pub mod Back
