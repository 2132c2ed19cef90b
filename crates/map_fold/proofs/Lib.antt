pub mod Ranking
pub mod Order
pub mod FirstOnes
pub mod Found
pub mod Ranked
mod Vectors
pub mod Centre
pub mod Thinning
