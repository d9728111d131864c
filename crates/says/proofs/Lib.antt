-- What belongs to no one function.
pub mod Laws
pub mod Digits
pub mod Places
pub mod Named
pub mod Faults
pub mod Short
pub mod Calls
