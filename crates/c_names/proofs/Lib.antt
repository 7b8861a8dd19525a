pub mod Tables
pub mod Layers
