pub mod Lines
pub mod Base64
pub mod Engine
