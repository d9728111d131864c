pub mod Faults
pub mod Make
pub mod Text
