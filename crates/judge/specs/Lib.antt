pub mod Answers
pub mod Arrays
pub mod Judgement
