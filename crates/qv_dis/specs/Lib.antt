pub mod Text
pub mod Back
