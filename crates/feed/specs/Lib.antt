pub mod Feed
pub mod File
