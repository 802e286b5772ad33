pub mod Contents
pub mod Found
pub mod Phases
pub mod Reading
pub mod Valid
