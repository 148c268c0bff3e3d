pub mod FirstBelow
pub mod IsPlant
pub mod ListTests
