pub mod Answered
pub mod Decrypted
pub mod Opened
pub mod Refused
