pub mod Entries
pub mod Pieces
pub mod Scripts
pub mod SoFar
