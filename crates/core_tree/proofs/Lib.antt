pub mod Adding
pub mod Lengthening
pub mod Ticking
pub mod Examples
