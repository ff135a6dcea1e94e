-- The lemmas that the functions' proofs cite.
-- Fresh is for the tables, Newlines for the first line, Answered for a record and a call; Sets has those that an attribute names.
mod Fresh
mod Newlines
mod Answered
mod Sets
