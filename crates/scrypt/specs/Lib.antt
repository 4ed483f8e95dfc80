pub mod Salsa
pub mod BlockMix
pub mod RomMix
pub mod Pbkdf2
pub mod Encoding
pub mod Scrypt
pub mod Messages
