pub mod Whole
pub mod Judged
pub mod Stream
pub mod Left
pub mod Files
pub mod Told
pub mod Ended
