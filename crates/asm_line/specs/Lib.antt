pub mod Row
pub mod Size
pub mod Stands
pub mod Text
pub mod Operand
pub mod Words
pub mod Read
pub mod Shown
