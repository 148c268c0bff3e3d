pub mod Model
pub mod Telemetry
pub mod Report
