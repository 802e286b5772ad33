pub mod Ascii
pub mod Bodies
pub mod Entries
pub mod Laws
pub mod Named
pub mod Numbers
pub mod Rows
pub mod Times
