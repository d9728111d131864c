pub mod Inside
pub mod Iteration
pub mod Legal
pub mod State
pub mod Why
