pub mod Protected
pub mod EncryptedIdentity
pub mod ProtectedIdentity
pub mod Identity
