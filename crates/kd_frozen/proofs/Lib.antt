mod Asked
mod Between
mod CloseBounds
mod Holes
mod Hulls
mod Laid
mod Outside
mod Parted
mod Round
mod Squares
pub mod Live
