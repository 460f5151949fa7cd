pub mod Masks
pub mod Results
