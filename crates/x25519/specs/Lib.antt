pub mod Elements
pub mod States
