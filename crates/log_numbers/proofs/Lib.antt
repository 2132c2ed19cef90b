pub mod FirstFields
pub mod FrontNumbers
