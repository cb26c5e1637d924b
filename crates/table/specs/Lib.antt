pub mod Parse
pub mod Table
pub mod Says
