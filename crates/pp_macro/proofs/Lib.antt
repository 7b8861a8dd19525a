pub mod Tables
pub mod Cuts
pub mod Fills
pub mod Eaches
pub mod Enough
