pub mod Bools
pub mod Build
pub mod Count
pub mod Most
pub mod Places
pub mod Refuse
pub mod Sets
pub mod Loops
