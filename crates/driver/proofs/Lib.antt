pub mod Going
pub mod Reports
pub mod Sending
