pub mod ModifiedUtf8
pub mod Names
pub mod Paths
pub mod Units
