pub mod Keys
pub mod Productions
pub mod Laws
pub mod Leaves
pub mod Lists
