pub mod Bench
pub mod Laws
pub mod Recipient
pub mod Names
pub mod FileLaws
pub mod Files
pub mod Command
pub mod Decimal
