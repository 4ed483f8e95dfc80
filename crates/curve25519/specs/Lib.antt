pub mod Field
pub mod Encoding
pub mod X25519
