pub mod Laws
mod Vectors
pub mod Same
pub mod Farthest
