pub mod Deeper
pub mod Ended
pub mod Floats
pub mod Told
