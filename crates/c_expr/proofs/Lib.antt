pub mod Loops
mod Deeper
