-- The definitions that the ballot and box functions are held to (Ballot, Boxes), and the laws about them (BallotLaws, BoxesLaws).
-- Relies on the kit's libraries alone. Cited by this crate's contracts and proofs, and by the crates above.
pub mod Ballot
pub mod BallotLaws
pub mod Boxes
pub mod BoxesLaws
