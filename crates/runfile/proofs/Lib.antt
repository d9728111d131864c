-- What belongs to no one function.
pub mod Numbers
pub mod Put
pub mod Laws
pub mod Written
pub mod Part
pub mod Follows
pub mod Bytes
pub mod Trip
pub mod Calls
