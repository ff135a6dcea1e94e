-- Agreement, level by level: a slot's ledger; a box keeps the ledger; runs of boxes; finishing; and what is promised.
pub mod Ledger
pub mod Majorities
pub mod Box
pub mod Runs
pub mod Finishing
pub mod Promises
pub mod Tight
