pub mod Versions
pub mod Marks
pub mod Book
pub mod Rules
pub mod Names
