pub mod Tables
pub mod Symbols
pub mod Indices
pub mod Lines
pub mod Faults
pub mod Groups
pub mod Decoded
