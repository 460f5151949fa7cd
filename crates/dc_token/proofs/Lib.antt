pub mod Lists
pub mod Hex
pub mod Values
pub mod Characters
pub mod Spelled
