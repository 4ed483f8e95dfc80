pub mod Accumulating
pub mod Clamping
pub mod Grouping
pub mod Multiplying
pub mod Numbering
pub mod Stepping
pub mod Tags
