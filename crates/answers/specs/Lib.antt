pub mod Asked
pub mod Lowest
pub mod Outcome
