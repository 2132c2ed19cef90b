pub mod Cells
pub mod Close
pub mod Segments
pub mod Shortlist
