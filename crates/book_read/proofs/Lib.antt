-- What the readers' proofs cite.
mod Held
