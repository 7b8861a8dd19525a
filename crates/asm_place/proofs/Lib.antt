pub mod Keys
mod Tables
