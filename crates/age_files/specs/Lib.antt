pub mod Status
pub mod Texts
pub mod Encrypting
pub mod Decrypting
pub mod Keys
pub mod Opening
