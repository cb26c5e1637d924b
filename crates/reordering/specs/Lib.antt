pub mod Reordered
pub mod Same
