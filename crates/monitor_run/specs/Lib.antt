pub mod Reports
pub mod Outcome
pub mod Rows
pub mod InTime
