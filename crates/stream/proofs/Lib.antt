-- The lemmas that the proofs about an output cite.
mod Put
