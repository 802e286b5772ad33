pub mod Pairs
pub mod Premises
pub mod Surviving
pub mod Wrong
