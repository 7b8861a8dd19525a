pub mod Comments
pub mod Open
pub mod Soles
pub mod Joins
pub mod Behind
