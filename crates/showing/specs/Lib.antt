pub mod Show
pub mod Inside
