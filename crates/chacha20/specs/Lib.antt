pub mod Rounds
pub mod Block
pub mod Encryption
pub mod Lanes
pub mod Blocks
