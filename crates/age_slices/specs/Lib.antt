pub mod Status
pub mod Handing
pub mod Decrypting
pub mod Chunks
pub mod Opening
pub mod Reading
