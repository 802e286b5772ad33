pub mod OutFiles
pub mod Outside
pub mod Statuses
pub mod Tells
