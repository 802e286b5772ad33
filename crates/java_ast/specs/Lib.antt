pub mod Texts
pub mod SoundUnits
