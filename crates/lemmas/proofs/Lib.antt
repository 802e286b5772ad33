pub mod Iterated
pub mod Lists
pub mod Tables
