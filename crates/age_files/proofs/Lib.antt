pub mod Encrypted
