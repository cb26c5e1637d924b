pub mod Answer
pub mod Position
pub mod Message
pub mod Calls
pub mod Promises
pub mod Published
pub mod Same
