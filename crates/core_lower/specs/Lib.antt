pub mod Lowered
pub mod Choice
pub mod Runs
