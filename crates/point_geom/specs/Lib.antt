pub mod Place
pub mod Axes
pub mod Distances
pub mod Boxes
pub mod Extents
pub mod Refusals
pub mod Corners
pub mod Packed
