pub mod Types
pub mod Units
pub mod Modifiers
pub mod Formals
pub mod Methods
pub mod Heads
