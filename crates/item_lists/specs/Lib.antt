pub mod Listed
pub mod Sought
pub mod Page
