pub mod Integers
pub mod Values
pub mod Ticks
pub mod Ordering
