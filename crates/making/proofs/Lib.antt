-- What belongs to no one function.
pub mod Stages
pub mod Files
pub mod Named
pub mod Short
pub mod Pieces
pub mod Fits
pub mod Follows
pub mod Whole
pub mod Calls
