pub mod Words
pub mod Every
pub mod Decimal
pub mod Hex
