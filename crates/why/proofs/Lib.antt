-- What belongs to no one function.
pub mod Numbers
pub mod Reasons
pub mod Answers
pub mod Room
pub mod Refused
pub mod Calls
