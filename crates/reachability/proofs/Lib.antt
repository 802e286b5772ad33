pub mod Laid
pub mod Searched
