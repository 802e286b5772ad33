pub mod Asked
pub mod Ends
pub mod Found
pub mod Once
pub mod Phased
pub mod Runs
pub mod Sourced
pub mod Stripped
