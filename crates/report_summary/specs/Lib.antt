pub mod Told
pub mod Sums
pub mod Text
