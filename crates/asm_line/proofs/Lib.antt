pub mod Text
pub mod Spaced
pub mod Operands
pub mod Numbers
pub mod Written
