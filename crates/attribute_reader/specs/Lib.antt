pub mod Attributes
pub mod Forms
pub mod Items
pub mod Laws
pub mod Values
