pub mod Tally
pub mod Reply
pub mod Support
pub mod Inside
