mod Passed
mod Methods
