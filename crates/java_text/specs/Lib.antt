pub mod Ascii
pub mod Ending
pub mod Letters
pub mod Source
