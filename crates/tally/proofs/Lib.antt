pub mod Carried
pub mod Laws
pub mod Leads
pub mod Replies
pub mod Taken
pub mod Calls
pub mod Support
