pub mod Writing
pub mod ClassNames
pub mod Descriptors
pub mod Fields
pub mod Stops
mod ArgSteps
mod Bytes
mod Cases
mod Leading
mod PartSteps
mod Reading
mod Shallows
mod ParamSteps
mod SignatureSteps
mod TypeSteps
