pub mod Seeding
pub mod Laying
pub mod Indexing
pub mod Bringing
pub mod Reached
pub mod Determined
