pub mod Shapes
pub mod ByteForm
pub mod Fitting
pub mod Fits
pub mod Storing
pub mod Recalling
