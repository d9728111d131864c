-- What belongs to no one function.
pub mod Sender
pub mod Text
pub mod Behind
pub mod Heading
pub mod Table
pub mod Iterations
pub mod Whole
pub mod Alike
pub mod Calls
pub mod Prefix
pub mod Taken
pub mod Ends
pub mod Rewrite
pub mod Room
pub mod Wrong
