pub mod Ends
pub mod Cuts
pub mod Stream
pub mod Owed
pub mod Taken
pub mod Plain
pub mod Parts
pub mod Each
