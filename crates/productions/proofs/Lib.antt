pub mod Lists
pub mod Fronts
pub mod Combining
pub mod Rows
pub mod Leaves
pub mod Types
pub mod BeforeDots
pub mod Parentheses
