pub mod Answers
pub mod Turns
pub mod Held
pub mod MarkedSubtrees
pub mod Late
pub mod Ends
