pub mod Handler
pub mod Registry
