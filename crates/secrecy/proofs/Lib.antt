pub mod Records
pub mod Secrecy
pub mod Determined
pub mod Evaluating
pub mod Examples
pub mod Instance
