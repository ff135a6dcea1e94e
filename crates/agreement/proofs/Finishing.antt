-- That the calls of finishing finish: the highest accepted, the two halves of a round, the round, and a round from fresh boxes.
pub mod Highest
pub mod Halves
pub mod All
pub mod Reaches
