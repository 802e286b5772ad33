pub mod Order
pub mod Parts
pub mod Paths
pub mod Stops
