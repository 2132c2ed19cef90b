pub mod Told
pub mod Mine
pub mod Meetings
pub mod Ended
