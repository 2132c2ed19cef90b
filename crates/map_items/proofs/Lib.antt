pub mod Numbered
pub mod Folds
pub mod Replays
pub mod Same
pub mod Puts
