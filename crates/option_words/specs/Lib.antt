pub mod Lists
pub mod Options
pub mod Paths
pub mod Seen
pub mod Workers
