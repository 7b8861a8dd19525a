mod Bytes
mod Masks
pub mod Sizes
pub mod Lengths
mod Values
mod Walks
