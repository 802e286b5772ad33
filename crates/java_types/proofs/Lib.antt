pub mod Fields
pub mod Fronts
pub mod Layers
pub mod Levels
pub mod OneDescriptor
pub mod OneTree
pub mod Rows
pub mod Trees
