pub mod Ends
pub mod Sound
pub mod Bases
pub mod Keeping
pub mod Losing
pub mod Numbering
pub mod Choosing
pub mod Outcomes
pub mod Causes
pub mod Hulls
pub mod Joining
mod Examples
