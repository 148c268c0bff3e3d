pub mod Arrays
pub mod Refused
pub mod Bounded
pub mod NextModel
pub mod Counted
pub mod Documents
