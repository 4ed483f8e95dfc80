pub mod Mac
pub mod Limbs
pub mod Groups
pub mod Given
pub mod Steps
