pub mod Nests
pub mod Read
