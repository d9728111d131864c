pub mod File
pub mod Listing
pub mod Files
pub mod Rewrite
pub mod Inside
pub mod Wrong
