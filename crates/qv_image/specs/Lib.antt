pub mod Fault
pub mod Header
pub mod Image
pub mod Read
pub mod Shown
