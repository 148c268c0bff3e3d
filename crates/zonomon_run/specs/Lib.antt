pub mod Words
pub mod Command
pub mod Ending
pub mod Endings
pub mod Runs
pub mod Demo
pub mod Checks
