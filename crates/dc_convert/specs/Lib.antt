pub mod Ranges
pub mod Levels
pub mod CommonKinds
pub mod Best
