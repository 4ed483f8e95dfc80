pub mod Hiding
