pub mod After
pub mod Computed
pub mod Running
pub mod Runs
pub mod Loaded
pub mod Program
