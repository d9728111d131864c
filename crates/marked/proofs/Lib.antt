pub mod CaseS
pub mod Claim
pub mod Worthless
