-- That a box keeps the ledger: the laws of what was said, then each kind of event, then all of them.
pub mod Laws
pub mod Propose
pub mod Collect
pub mod Last
pub mod Begin
pub mod Accept
pub mod Success
pub mod OnSlot
