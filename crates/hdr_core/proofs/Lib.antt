pub mod Grown
pub mod Listing
pub mod Pieces
pub mod Sorting
pub mod Stacks
