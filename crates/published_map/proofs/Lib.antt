pub mod Marking
pub mod Firsts
pub mod Hearing
pub mod Pending
pub mod Shows
pub mod Crossing
mod Holding
mod Late
