pub mod Stated
pub mod Body
pub mod Unit
