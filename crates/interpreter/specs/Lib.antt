pub mod Said
pub mod Looks
pub mod Turns
pub mod Tables
pub mod Desk
