pub mod Growing
pub mod Characters
pub mod Joins
