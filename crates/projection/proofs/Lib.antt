pub mod Answered
pub mod Found
pub mod Related
pub mod Resolved
pub mod Stripping
pub mod Twins
pub mod Unhidden
pub mod Written
