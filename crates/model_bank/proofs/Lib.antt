pub mod MemberStep
pub mod BankStep
pub mod Judged
pub mod Taking
pub mod BankBegun
pub mod Offered
pub mod Allowed
pub mod Later
