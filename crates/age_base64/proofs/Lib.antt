pub mod Lines
pub mod Columns
pub mod Pieces
pub mod PaddedColumns
pub mod Engines
