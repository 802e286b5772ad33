pub mod Answers
pub mod Found
pub mod JobPaths
pub mod Made
pub mod Outcome
pub mod Phases
pub mod Runs
pub mod Sources
