pub mod Saying
pub mod Looking
pub mod Turning
pub mod Answering
