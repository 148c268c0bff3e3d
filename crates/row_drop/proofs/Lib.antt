pub mod Shrinking
pub mod Plain
pub mod Sizes
