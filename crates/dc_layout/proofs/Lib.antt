pub mod Counting
pub mod Settling
pub mod Copying
pub mod Starting
