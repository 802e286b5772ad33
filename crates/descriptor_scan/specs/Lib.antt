pub mod Forms
pub mod Passing
