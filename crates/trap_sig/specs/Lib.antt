pub mod Gather
pub mod Inputs
pub mod Gathered
