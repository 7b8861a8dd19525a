pub mod Kinds
pub mod Types
pub mod Layout
pub mod Compatible
pub mod View
pub mod Kept
pub mod Plans
