pub mod Bodies
pub mod Refusal
pub mod Seen
pub mod Slots
pub mod Writing
