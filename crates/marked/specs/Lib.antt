pub mod Cases
pub mod Worthless
