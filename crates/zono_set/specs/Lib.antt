pub mod Bound
pub mod Holds
pub mod Kept
pub mod Used
