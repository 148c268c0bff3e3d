pub mod Cuts
pub mod Values
pub mod Guessed
pub mod Sizes
pub mod Filled
