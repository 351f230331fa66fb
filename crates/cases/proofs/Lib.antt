-- Facts about the definitions, which the code's proofs cite.
mod Steps
mod FilledBytes
