pub mod Bytes
pub mod Descriptor
pub mod Fronts
pub mod Nesting
pub mod Signature
pub mod Spelling
pub mod Trees
pub mod Types
