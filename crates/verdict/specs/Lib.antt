pub mod Laid
pub mod Weighed
pub mod Consulted
