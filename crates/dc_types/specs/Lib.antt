pub mod Integers
pub mod Events
pub mod Same
pub mod Exact
pub mod Equal
pub mod Ordered
