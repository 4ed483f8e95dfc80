mod Groups
pub mod Seals
