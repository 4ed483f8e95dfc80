pub mod Messages
pub mod Text
pub mod Standing
pub mod Payloads
pub mod Putting
pub mod Records
