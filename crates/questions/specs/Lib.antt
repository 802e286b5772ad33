pub mod Asked
pub mod Asking
pub mod Forms
pub mod Kinds
pub mod Values
