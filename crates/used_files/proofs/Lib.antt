pub mod Folders
pub mod Keys
pub mod Listings
pub mod Lists
pub mod Options
pub mod Ordered
pub mod Texts
