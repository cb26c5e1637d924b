pub mod Unmoved
pub mod Determined
