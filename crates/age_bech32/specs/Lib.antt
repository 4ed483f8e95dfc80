pub mod Symbols
pub mod Remainder
pub mod Groups
pub mod Written
pub mod Bech32
pub mod Refusals
