pub mod Each
pub mod Trimmed
pub mod Words
