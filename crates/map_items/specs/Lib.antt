pub mod Sizes
pub mod Contents
pub mod Fold
pub mod Ops
