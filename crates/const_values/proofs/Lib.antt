mod Congruent
mod Wrapping
