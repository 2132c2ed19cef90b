pub mod Prefixes
pub mod Adding
pub mod Keeping
pub mod Counting
