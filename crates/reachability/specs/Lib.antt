pub mod Flat
pub mod Reached
pub mod Search
