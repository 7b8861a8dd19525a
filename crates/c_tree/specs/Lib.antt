pub mod Begins
pub mod Heights
pub mod Specs
