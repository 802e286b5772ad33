pub mod Firsts
pub mod Keys
pub mod Listed
pub mod Ordered
pub mod Placed
pub mod Ranged
