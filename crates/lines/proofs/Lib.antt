-- What belongs to no one function.
pub mod Decimal
pub mod Placed
pub mod Lines
pub mod Laws
pub mod Put
pub mod Pieces
pub mod Digits
pub mod Walk
pub mod Read
pub mod ReadBack
pub mod Calls
