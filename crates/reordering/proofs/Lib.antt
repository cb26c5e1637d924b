pub mod Swapping
pub mod Breaking
pub mod Judging
pub mod Answering
pub mod Order
pub mod Instance
