pub mod Lines
pub mod Queries
pub mod Replies
pub mod Seen
pub mod Texts
