pub mod Wanted
pub mod Front
