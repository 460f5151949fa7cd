mod Examples
mod Rows
pub mod Words
pub mod Loops
pub mod Fitting
pub mod Keeps
pub mod Ends
pub mod Once
pub mod Ticks
