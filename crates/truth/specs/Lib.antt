pub mod Reading
pub mod Passes
pub mod Steps
pub mod Promise
pub mod Marks
