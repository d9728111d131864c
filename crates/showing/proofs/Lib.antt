-- What belongs to no one function.
pub mod Laws
pub mod GoodFiles
pub mod Room
pub mod Calls
