pub mod Agreement
pub mod Bounds
pub mod Condemned
pub mod Iteration
pub mod Reasons
