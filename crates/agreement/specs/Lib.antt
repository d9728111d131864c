pub mod Demand
pub mod Bounds
pub mod Reasons
