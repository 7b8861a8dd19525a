pub mod Defining
pub mod Counting
pub mod Reading
pub mod Distinct
