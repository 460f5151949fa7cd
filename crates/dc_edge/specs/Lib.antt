pub mod Causes
pub mod Library
pub mod Memory
pub mod Sink
pub mod Puts
