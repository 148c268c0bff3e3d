pub mod Answers
pub mod Seen
pub mod Bank
pub mod Steps
pub mod Members
pub mod Stepping
pub mod Claims
pub mod Offers
