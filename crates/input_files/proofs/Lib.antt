pub mod Models
pub mod Streams
pub mod Ended
