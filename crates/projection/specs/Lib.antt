pub mod ShowsLess
pub mod Stripping
pub mod Survives
pub mod Written
