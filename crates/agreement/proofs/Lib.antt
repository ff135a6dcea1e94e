-- The theorems whose statements rest on the definitions of specs/: a wrong definition there is refused here.
-- Ledger, Box, Runs and Finishing are the levels; Promises and Tight are what is promised.
pub mod Ledger
pub mod Box
pub mod Runs
pub mod Finishing
pub mod Promises
pub mod Tight
