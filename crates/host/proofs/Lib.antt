pub mod Hosting
pub mod Determined
pub mod Keeping
pub mod Apart
