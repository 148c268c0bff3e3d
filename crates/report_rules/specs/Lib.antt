pub mod Lines
pub mod Report
pub mod Claims
pub mod Laws
pub mod Replay
