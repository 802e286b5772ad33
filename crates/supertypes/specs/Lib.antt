pub mod Found
pub mod Going
pub mod Rings
pub mod State
pub mod Walk
pub mod Walking
pub mod Ways
