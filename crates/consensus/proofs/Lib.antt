pub mod Restarting
pub mod Sets
pub mod Proposing
