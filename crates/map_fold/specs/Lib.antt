pub mod Answers
pub mod Nearest
pub mod Thinned
pub mod Neighbours
pub mod Clusters
pub mod Rivals
