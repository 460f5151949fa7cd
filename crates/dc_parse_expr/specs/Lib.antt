pub mod Nests
pub mod Parses
