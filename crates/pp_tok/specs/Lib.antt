pub mod Chars
pub mod Lengths
pub mod Pieces
pub mod Unclosed
pub mod Sole
pub mod CharVectors
pub mod Lines
pub mod Reading
