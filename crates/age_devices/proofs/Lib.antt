pub mod Scripted
pub mod Showing
