pub mod Verdict
pub mod Rules
pub mod Judged
pub mod Limits
pub mod Accepted
