pub mod Determined
pub mod Finding
pub mod Reading
pub mod Judging
pub mod Accepting
