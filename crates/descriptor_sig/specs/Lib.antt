pub mod Parts
pub mod Refusals
pub mod Built
pub mod Standing
