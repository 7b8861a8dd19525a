pub mod Results
pub mod Digits
pub mod Numbers
pub mod Texts
pub mod Marks
pub mod Tokens
pub mod Joining
pub mod Shown
