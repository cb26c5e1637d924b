pub mod Feeding
pub mod Loading
