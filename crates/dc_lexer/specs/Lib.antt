pub mod Fronts
pub mod Leads
pub mod SignBytes
pub mod Outcome
pub mod Cuts
