pub mod ByCount
pub mod Told
pub mod Runs
pub mod Checks
pub mod Demonstration
pub mod Demos
