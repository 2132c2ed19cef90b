pub mod Points
pub mod Pending
pub mod Sides
pub mod Inserted
pub mod First
pub mod Nearest
pub mod Best
pub mod Query
