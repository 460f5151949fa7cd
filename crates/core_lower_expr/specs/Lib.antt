pub mod Lowered
pub mod Frames
pub mod Slots
pub mod Follows
