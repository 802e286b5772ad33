pub mod Decoded
pub mod Inverse
pub mod ModifiedUtf8
