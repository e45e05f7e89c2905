pub mod Steps
pub mod Runs
pub mod Pushes
pub mod Names
