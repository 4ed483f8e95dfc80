pub mod Selecting
pub mod Bits
pub mod Congruences
pub mod LadderSteps
pub mod ByteLoops
pub mod PowerChain
