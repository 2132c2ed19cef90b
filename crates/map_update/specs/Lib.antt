pub mod Single
pub mod OnePoint
pub mod Draft
pub mod Entrants
pub mod Ranks
pub mod Clearing
pub mod Waiting
pub mod Pieces
