pub mod Replaying
pub mod Balance
pub mod SameItems
pub mod Handing
pub mod PartLogs
pub mod OtherParts
