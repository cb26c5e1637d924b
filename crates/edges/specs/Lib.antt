pub mod Graph
pub mod Closure
pub mod Uses
pub mod Queue
pub mod Marks
