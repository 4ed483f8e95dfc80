pub mod Pairs
pub mod Joins
pub mod Steps
pub mod Hashes
pub mod Numbers
pub mod Tables
pub mod Lengths
