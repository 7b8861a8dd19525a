mod Written
mod Sizes
mod Rows
mod Reading
mod Kept
mod Back
