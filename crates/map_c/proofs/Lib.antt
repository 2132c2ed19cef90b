pub mod Pieces
pub mod Steps
pub mod Told
pub mod AsBox
pub mod Crossing
pub mod Holding
pub mod Made
pub mod Replayed
