pub mod History
pub mod Built
pub mod DetachedItems
pub mod Seen
pub mod Logs
