pub mod Texts
pub mod Commands
pub mod Faults
pub mod Numbers
pub mod Placing
pub mod Replies
