pub mod Text
pub mod Unit
