pub mod Count
pub mod Most
pub mod Sets
pub mod Refuse
