pub mod Counts
pub mod Plant
pub mod SampleLimits
pub mod Seen
pub mod Parts
pub mod Signs
