pub mod Say
pub mod Told
pub mod Inside
