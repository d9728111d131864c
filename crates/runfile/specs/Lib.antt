pub mod File
pub mod Reply
pub mod Write
pub mod Inside
