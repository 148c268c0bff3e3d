pub mod Line
pub mod Seen
pub mod Names
pub mod Ranges
pub mod Loose
pub mod Laws
