pub mod Decrypted
pub mod Lengths
pub mod Asking
pub mod Fronts
pub mod Pieces
pub mod Files
pub mod OnePiece
