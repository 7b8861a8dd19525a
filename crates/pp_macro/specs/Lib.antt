pub mod Tokens
pub mod Macros
pub mod Shown
pub mod Pieces
pub mod Fill
pub mod Calls
pub mod Expand
pub mod Nests
