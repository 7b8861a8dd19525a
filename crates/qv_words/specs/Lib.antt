pub mod Numbers
pub mod Names
pub mod Calls
pub mod Text
pub mod Define
pub mod Words
pub mod Shown
