pub mod Place
pub mod Word
pub mod Decimal
