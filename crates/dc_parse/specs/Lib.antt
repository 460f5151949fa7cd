pub mod Left
pub mod Calls
pub mod Nests
pub mod Chains
pub mod Cases
pub mod Parses
