pub mod Devices
pub mod AtCalls
pub mod Sources
pub mod Sinks
