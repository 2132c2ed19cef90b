pub mod Search
pub mod Slabs
