pub mod Blocks
pub mod Facts
pub mod Sides
pub mod Streams
