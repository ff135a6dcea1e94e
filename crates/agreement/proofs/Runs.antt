-- The theorems about runs: what a world tells, agreement, what stays said, and what is heeded; and that promises stay low.
pub mod Told
pub mod Call
pub mod Agrees
pub mod Stays
pub mod NeverSix
pub mod Heeds
pub mod Low
