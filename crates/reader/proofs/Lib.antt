pub mod Readers
pub mod Going
pub mod Determined
