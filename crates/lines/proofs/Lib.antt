-- The lemmas that the functions' proofs cite.
mod Digits
mod Numbers
mod Widths
mod Fields
mod Sets
