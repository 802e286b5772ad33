pub mod ByMarks
pub mod Lookups
pub mod Loops
pub mod Made
pub mod Mapped
pub mod Reaching
pub mod Stays
pub mod Steps
