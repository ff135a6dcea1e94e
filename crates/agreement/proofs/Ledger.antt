-- The theorems of the ledger: what a move leaves, that moves keep it kept, and that two chosen values agree.
pub mod Frames
pub mod Keeps
pub mod Agrees
