pub mod Indexed
pub mod Members
pub mod Numbers
pub mod Refusals
pub mod Replies
pub mod Sole
pub mod Sought
