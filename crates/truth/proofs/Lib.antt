pub mod Bodies
pub mod FactFlags
pub mod Turns
pub mod Held
pub mod Standing
pub mod Modelled
pub mod Marked
