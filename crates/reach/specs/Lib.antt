pub mod Promise
pub mod Seeds
pub mod Bodies
pub mod Onward
pub mod Steps
