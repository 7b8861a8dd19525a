pub mod Views
pub mod Agree
pub mod Extends
pub mod Kept
pub mod Grown
pub mod Told
pub mod Plans
pub mod Completed
