pub mod Joining
pub mod Turning
pub mod Digits
pub mod Depths
pub mod Skipping
pub mod Reading
