pub mod Laying
pub mod Consulting
pub mod Marks
